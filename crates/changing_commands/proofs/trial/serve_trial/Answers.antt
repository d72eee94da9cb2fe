use Rattle.std.proofs.Common.{inl, refl}
use Rattle.changing_commands.proofs.TrialFacts.{tried}
use Rattle.changing_commands.proofs.trial.serve_trial.Goals as goal

pub returns-in-Err-clause-tried : goal.returns-in-Err-clause-tried
returns-in-Err-clause-tried g c = rw c.unbegun.ensures (inl (c.in-Err.ensures.fault, ((refl, refl, refl), refl)))

pub returns-in-Ok-clause-tried : goal.returns-in-Ok-clause-tried
returns-in-Ok-clause-tried g c =
    tried _ _ _ c.in-Ok.office c.in-Ok.ensures.founded
    c.answer_over.result.ended c.answer_over.ensures.answered c.answer_over.ensures.stopped
