use Rattle.std.proofs.Common.{rules, inr, refl}
use Rattle.command_host.proofs.journal_text.told_of_text.Goals as goal

pub returns-in-Some-clause-cause : goal.returns-in-Some-clause-cause
returns-in-Some-clause-cause g c = inr (c.in-Some.none, refl, search rules)
