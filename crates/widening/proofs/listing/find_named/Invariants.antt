use Rattle.std.proofs.Common.{◌≡◌, ◌++◌, map, take}
use Rattle.std.specs.Prelude.{filter}
use Rattle.widening.specs.declared.finding.Finding.TheVariants.{Call}
use Rattle.widening.specs.Calls.{is_permitted_more}
use Rattle.widening.specs.Memo.{IsMemo}
use Rattle.widening.specs.Texts.{texts_in}
use Rattle.widening.proofs.listing.find_named.Given as goal

abbrev pub invariant-loop-at : goal.invariant-loop-at
invariant-loop-at l = record {
  memo : IsMemo l.groups.base.now.entries l.groups.new.now.entries l.memo.of_new.items l.memo.of_base.items;
  found : l.found.items ≡ l.initial.found.items ++ map Call (filter (is_permitted_more l.groups.base.now l.groups.new.now) (take l.at (texts_in l.groups.names.now)));
}
