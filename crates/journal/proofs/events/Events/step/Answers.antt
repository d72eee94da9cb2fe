use Rattle.std.proofs.Common.{refl}
use Rattle.journal.specs.Reading.{held}
use Rattle.journal.proofs.SeenFacts.{seen_end, seen_more}
use Rattle.journal.proofs.StepFacts.{no_body, no_body_left, refused_left, step_last, step_left, step_refused, step_taken}
use Rattle.journal.proofs.events.Events.step.Goals as goal

pub returns-in_err-read_body-clause-told : goal.returns-in_err-read_body-clause-told
returns-in_err-read_body-clause-told g c =
    step_left _ _ _ _ c.from_residual.ensures.1 (no_body _ (held c.args.self.now.reader) _ _ _ c.in_err-read_body.ensures)

pub returns-in_err-read_body-clause-leaves : goal.returns-in_err-read_body-clause-leaves
returns-in_err-read_body-clause-leaves g c =
    no_body_left _ (held c.args.self.now.reader) _ _ _ _ _ _ c.from_residual.ensures.1 c.in_err-read_body.ensures

pub returns-then-not-branch-clause-told : goal.returns-then-not-branch-clause-told
returns-then-not-branch-clause-told g c =
    step_last _ _ _ _ _ _ _ _ _ _ c.in_ok-read_body.ensures c.if-not-branch.true c.last.ensures.none_held c.last.ensures.last

pub returns-in_err-stands-clause-told : goal.returns-in_err-stands-clause-told
returns-in_err-stands-clause-told g c =
    step_left _ _ _ _ c.from_residual-in_err-stands.ensures.1
    (step_refused _ _ _ _ _ _ _ _ _ _ _ c.in_ok-read_body.ensures c.if-not-branch.false c.deref.ensures.value c.in_err-stands.ensures)

pub returns-in_err-stands-clause-leaves : goal.returns-in_err-stands-clause-leaves
returns-in_err-stands-clause-leaves g c =
    refused_left _ _ _ _ _ _ _ _ _ _ _ _ c.from_residual-in_err-stands.ensures.1 c.in_ok-read_body.ensures c.if-not-branch.false c.deref.ensures.value c.in_err-stands.ensures

pub returns-in-Some-clause-told : goal.returns-in-Some-clause-told
returns-in-Some-clause-told g c =
    step_taken _ _ _ _ _ _ _ _ _ _ _ c.in_ok-read_body.ensures c.if-not-branch.false c.deref.ensures.value (rw c.in-Some.is at c.in_ok-stands.ensures)

pub returns-in-None-clause-told : goal.returns-in-None-clause-told
returns-in-None-clause-told g c =
    (step_taken _ _ _ _ _ _ _ _ _ _ _ c.in_ok-read_body.ensures c.if-not-branch.false c.deref.ensures.value (rw c.in-None.is at c.in_ok-stands.ensures), refl)

pub returns-then-not-branch-clause-seen : goal.returns-then-not-branch-clause-seen
returns-then-not-branch-clause-seen g c = λ bytes seen.
    seen_end bytes _ _ _ _ _ _ _ _ _ _ c.in_ok-read_body.ensures c.if-not-branch.true seen

pub returns-in-Some-clause-seen : goal.returns-in-Some-clause-seen
returns-in-Some-clause-seen g c = λ bytes seen.
    seen_more bytes _ _ _ _ _ _ _ _ _ _ _ c.in_ok-read_body.ensures c.if-not-branch.false c.see.ensures seen

pub returns-in-None-clause-seen : goal.returns-in-None-clause-seen
returns-in-None-clause-seen g c = λ bytes seen.
    seen_more bytes _ _ _ _ _ _ _ _ _ _ _ c.in_ok-read_body.ensures c.if-not-branch.false c.see.ensures seen
