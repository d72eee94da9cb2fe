use Rattle.std.proofs.lemmas.Nat.{or_lt}
use Rattle.office_words.proofs.role.Roles.with.Goals as goal

pub invariant_of-result : goal.invariant_of-result
invariant_of-result c = or_lt 6 _ _ c.self.invariant c.mask_of.ensures.small
