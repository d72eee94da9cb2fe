use Rattle.memory_database.specs.MemoryStore.{over_memory}
use Rattle.changing_commands.proofs.TrialFacts.{founded_as}
use Rattle.changing_commands.proofs.trial.trial_office.Goals as goal

pub returns-in-Ok-found_over-clause-founded : goal.returns-in-Ok-found_over-clause-founded
returns-in-Ok-found_over-clause-founded c = founded_as over_memory _ _ _ c.in-Ok.ensures.founding c.in-Ok-found_over.ensures
