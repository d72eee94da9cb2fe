use Rattle.std.proofs.Common.{rules}
use Rattle.implication.proofs.Exact.{masked_twice}
use Rattle.implication.proofs.Implied.{implies-from_exact}
use Rattle.implication.proofs.compare.implies.Goals as goal

pub mask_implies-requires : goal.mask_implies-requires
mask_implies-requires c = masked_twice c.args.compare.value c.args.compare.value_two

pub returns-then-below_implies-clause-value : goal.returns-then-below_implies-clause-value
returns-then-below_implies-clause-value c = implies-from_exact _ c.args.compare c.args.other (search rules)

pub returns-else-below_implies-clause-value : goal.returns-else-below_implies-clause-value
returns-else-below_implies-clause-value c = implies-from_exact _ c.args.compare c.args.other (search rules)

pub returns-in-LessThan-clause-value : goal.returns-in-LessThan-clause-value
returns-in-LessThan-clause-value c = implies-from_exact _ c.args.compare c.args.other (search rules)

pub returns-in-LessOrEqual-clause-value : goal.returns-in-LessOrEqual-clause-value
returns-in-LessOrEqual-clause-value c = implies-from_exact _ c.args.compare c.args.other (search rules)

pub returns-in-Equal-clause-value : goal.returns-in-Equal-clause-value
returns-in-Equal-clause-value c = implies-from_exact _ c.args.compare c.args.other (search rules)

pub returns-in-GreaterOrEqual-clause-value : goal.returns-in-GreaterOrEqual-clause-value
returns-in-GreaterOrEqual-clause-value c = implies-from_exact _ c.args.compare c.args.other (search rules)

pub returns-in-GreaterThan-clause-value : goal.returns-in-GreaterThan-clause-value
returns-in-GreaterThan-clause-value c = implies-from_exact _ c.args.compare c.args.other (search rules)

pub returns-in-MaskedEqual-clause-value : goal.returns-in-MaskedEqual-clause-value
returns-in-MaskedEqual-clause-value c = implies-from_exact _ c.args.compare c.args.other (search rules)
