use Rattle.std.proofs.Common.{◌<◌, subst, sym}
use Rattle.widening.proofs.MemoFacts.{row_at, row_changed}
use Rattle.widening.proofs.memo.does_imply.Goals as goal

pub implies_one-requires : goal.implies_one-requires
implies_one-requires c =
    row_at c.args.entries.now c.args.others.now.entries.now c.args.rows.now c.args.place c.index-entries-place.result _ c.requires.rows c.requires.within c.index-entries-place.is

pub returns-clause-rows : goal.returns-clause-rows
returns-clause-rows c =
    row_changed c.args.entries.now c.args.others.now.entries.now c.args.rows.now c.args.place c.implies_one.new.row c.index-entries-place.result c.requires.rows
    (subst (λ n. c.args.place < n) (sym c.requires.rows.count) c.requires.within) c.index-entries-place.is c.in_ok-told.ensures.row
