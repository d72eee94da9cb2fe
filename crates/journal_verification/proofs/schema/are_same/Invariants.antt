use Rattle.std.proofs.Common.{◌≡◌, take}
use Rattle.std.specs.List.{AllByRecursion}
use Rattle.journal_verification.proofs.schema.are_same.Given as goal

abbrev pub invariant-loop-at : goal.invariant-loop-at
invariant-loop-at g l = record {
  same : take l.at l.left ≡ take l.at l.right;
  plain : AllByRecursion g.T.Part.is_plain (take l.at l.left);
}
