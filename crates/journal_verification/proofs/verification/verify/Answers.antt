use Rattle.sqlite.specs.Held.{state}
use Rattle.memory_database.proofs.MemoryFacts.{memory_is_clean}
use Rattle.journal_verification.proofs.Looks.{looked_itself}
use Rattle.journal_verification.proofs.verification.verify.Goals as goal

pub verify_over-requires-clause-clean : goal.verify_over-requires-clause-clean
verify_over-requires-clause-clean g c = memory_is_clean

pub returns-in-Err-clause-looked : goal.returns-in-Err-clause-looked
returns-in-Err-clause-looked g c = looked_itself (state g.T.Store c.args.office.now) c.requires
