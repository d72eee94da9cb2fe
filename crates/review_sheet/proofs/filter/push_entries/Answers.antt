use Rattle.std.proofs.Common.{◌++◌}
use Rattle.std.specs.Prelude.{string_bytes}
use Rattle.review_sheet.specs.Filters.{entries_lines}
use Rattle.review_sheet.specs.Layout.{joined}
use Rattle.review_sheet.proofs.Adding.{entry_more, entries_end}
use Rattle.review_sheet.proofs.filter.push_entries.Goals as goal

pub loop-i-preserved : goal.loop-i-preserved
loop-i-preserved c =
    entry_more (string_bytes c.args.text.now ++ joined (entries_lines 1 c.args.entries.now)) (string_bytes c.loop-i.text) (string_bytes c.push_entry.new.text)
    c.args.entries.now c.loop-i.i c.index-entries-i.result c.loop-i-test.true c.index-entries-i.is c.loop-i.invariant c.in_ok-push_entry.ensures

pub returns : goal.returns
returns c =
    entries_end (string_bytes c.args.text.now ++ joined (entries_lines 1 c.args.entries.now)) (string_bytes c.loop-i.text)
    c.args.entries.now c.loop-i.i c.loop-i-test.false c.loop-i.invariant
