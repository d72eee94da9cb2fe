use Rattle.review_office.specs.Meant.{meaning_over}
use Rattle.journal.specs.Writers.{ShowsIf, boxed_meant}
use Rattle.journal_office.specs.Mending.{LooksFor}
use Rattle.journal_office.proofs.AskFacts.{leaves_both, looks_then, looks_wider}
use Rattle.journal_office.proofs.MendFacts.{left_with}
use Rattle.journal_office.proofs.mending.look_for_both.Goals as goal

pub returns-in_err-look_for-clause-leaves : goal.returns-in_err-look_for-clause-leaves
returns-in_err-look_for-clause-leaves g c = c.in_err-look_for.ensures.leaves

pub returns-in_err-look_for-clause-looks : goal.returns-in_err-look_for-clause-looks
returns-in_err-look_for-clause-looks g c =
    let m = meaning_over g.S.Store in
    let first = boxed_meant c.args.first.now in
    let second = boxed_meant c.args.second.now in
    left_with (LooksFor m c.args.office.now c.look_for.new.office (λ t. ShowsIf t first × ShowsIf t second)) c.from_residual.result c.in_err-look_for.field-0.0 c.from_residual.ensures.1
    (looks_wider m c.args.office.now c.look_for.new.office (λ t. ShowsIf t first) (λ t. ShowsIf t first × ShowsIf t second) c.in_err-look_for.field-0.0 (λ t both. both.0) c.in_err-look_for.ensures.looks)

pub returns-clause-leaves : goal.returns-clause-leaves
returns-clause-leaves g c = leaves_both (meaning_over g.S.Store) c.args.office.now c.look_for.new.office c.look_for-2.new.office c.in_ok-look_for.ensures.leaves c.look_for-2.ensures.leaves

pub returns-clause-looks : goal.returns-clause-looks
returns-clause-looks g c =
    looks_then (meaning_over g.S.Store) c.args.office.now c.look_for.new.office c.look_for-2.new.office c.in_ok-look_for.ensures.leaves c.look_for-2.ensures.leaves
    (λ t. ShowsIf t (boxed_meant c.args.first.now)) (λ t. ShowsIf t (boxed_meant c.args.second.now)) c.look_for-2.result c.in_ok-look_for.ensures.looks c.look_for-2.ensures.looks
