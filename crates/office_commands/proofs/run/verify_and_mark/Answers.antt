use Rattle.std.proofs.Common.{inl, inr}
use Rattle.reading_commands.proofs.FailingFacts.{failed_by}
use Rattle.office_commands.proofs.RunFacts.{if_set, if_unset}
use Rattle.office_commands.proofs.run.verify_and_mark.Goals as goal
use Rattle.office_commands.proofs.run.verify_and_mark.Goals.{then-words+in_ok-mark_stored, else-words}

pub returns-in_err-status-clause-failed : goal.returns-in_err-status-clause-failed
returns-in_err-status-clause-failed g c =
    failed_by _ _ c.in_err-status.field-0.0 c.from_residual.ensures.1 (inl c.in_err-status.ensures.failed)

pub returns-in_err-mark_stored-clause-failed : goal.returns-in_err-mark_stored-clause-failed
returns-in_err-mark_stored-clause-failed g c =
    failed_by _ _ c.in_err-mark_stored.field-0.0 c.from_residual-in_err-mark_stored.ensures.1
    (inr (c.if-words.true, c.in_ok-status.ensures.done.0, c.in_err-mark_stored.ensures))

pub returns-clause-done : goal.returns-clause-done
returns-clause-done g c = elim c.if-words.branch [
  | then-words+in_ok-mark_stored w ↦ ((c.in_ok-status.ensures.done.0, if_set _ _ w.if-words.true w.in_ok-mark_stored.ensures), c.in_ok-status.ensures.done.1)
  | else-words w ↦ ((c.in_ok-status.ensures.done.0, if_unset _ _ w.if-words.false), c.in_ok-status.ensures.done.1)
]
