use Rattle.changing_commands.specs.Trials.{trial_founding}
use Rattle.changing_commands.proofs.TrialFacts.{gives_described, only_memory, trial_is_described}
use Rattle.changing_commands.proofs.trial.trial_founding.Goals as goal

pub returns-clause-founding : goal.returns-clause-founding
unfolding trial_founding
returns-clause-founding c = gives_described _ _ c.founding_of.ensures

pub returns-clause-memory : goal.returns-clause-memory
unfolding trial_founding
returns-clause-memory c = only_memory c.founding_of.result trial_founding _ trial_is_described.1 c.founding_of.ensures
