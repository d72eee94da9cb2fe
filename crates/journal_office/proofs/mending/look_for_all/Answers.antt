use Rattle.std.proofs.Common.{◌∙◌, Ok, Err, ap, not}
use Rattle.office_policy.proofs.SurvivalFacts.{left_itself}
use Rattle.review_office.specs.Meant.{meaning_over}
use Rattle.journal.specs.Writers.{ShowsIf, ShowsWriters, boxed_meant, writers_meant}
use Rattle.journal_office.specs.Mending.{LooksFor}
use Rattle.journal_office.proofs.AskFacts.{Five, Four, are_all, in_order, leaves_both, looks_as, looks_then, looks_wider, no_user}
use Rattle.journal_office.proofs.MendFacts.{left_with}
use Rattle.journal_office.proofs.mending.look_for_all.Goals as goal

pub returns-then-is_none-clause-leaves : goal.returns-then-is_none-clause-leaves
returns-then-is_none-clause-leaves g c = left_itself (meaning_over g.S.Store) c.args.office.now

pub returns-then-is_none-clause-looks : goal.returns-then-is_none-clause-looks
returns-then-is_none-clause-looks g c = λ h of clean all. no_user c.args.writers.now _ (c.is_none.ensures ∙ ap not c.if-is_none.true) all

pub returns-in_err-look_for_both-clause-leaves : goal.returns-in_err-look_for_both-clause-leaves
returns-in_err-look_for_both-clause-leaves g c = c.in_err-look_for_both.ensures.leaves

pub returns-in_err-look_for_both-clause-looks : goal.returns-in_err-look_for_both-clause-looks
returns-in_err-look_for_both-clause-looks g c =
    let m = meaning_over g.S.Store in
    let w = c.args.writers.now in
    left_with (LooksFor m c.args.office.now c.look_for_both.new.office (λ t. ShowsWriters t (writers_meant w))) c.from_residual.result c.in_err-look_for_both.field-0.0 c.from_residual.ensures.1
    (looks_wider m c.args.office.now c.look_for_both.new.office _ (λ t. ShowsWriters t (writers_meant w)) c.in_err-look_for_both.field-0.0 (λ t all. (in_order w t all).0.0) c.in_err-look_for_both.ensures.looks)

pub returns-in_err-look_for_both-2-clause-leaves : goal.returns-in_err-look_for_both-2-clause-leaves
returns-in_err-look_for_both-2-clause-leaves g c =
    leaves_both (meaning_over g.S.Store) c.args.office.now c.look_for_both.new.office c.look_for_both-2.new.office c.in_ok-look_for_both.ensures.leaves c.in_err-look_for_both-2.ensures.leaves

pub returns-in_err-look_for_both-2-clause-looks : goal.returns-in_err-look_for_both-2-clause-looks
returns-in_err-look_for_both-2-clause-looks g c =
    let m = meaning_over g.S.Store in
    let w = c.args.writers.now in
    let why = c.in_err-look_for_both-2.field-0.0 in
    left_with (LooksFor m c.args.office.now c.look_for_both-2.new.office (λ t. ShowsWriters t (writers_meant w))) c.from_residual-in_err-look_for_both-2.result why c.from_residual-in_err-look_for_both-2.ensures.1
    (looks_wider m c.args.office.now c.look_for_both-2.new.office (Four w) (λ t. ShowsWriters t (writers_meant w)) why (λ t all. (in_order w t all).0)
    (looks_then m c.args.office.now c.look_for_both.new.office c.look_for_both-2.new.office c.in_ok-look_for_both.ensures.leaves c.in_err-look_for_both-2.ensures.leaves
    (λ t. ShowsIf t (boxed_meant w.users) × ShowsIf t (boxed_meant w.revisions)) (λ t. ShowsIf t (boxed_meant w.votes) × ShowsIf t (boxed_meant w.baselines)) (Err why) c.in_ok-look_for_both.ensures.looks c.in_err-look_for_both-2.ensures.looks))

pub returns-clause-leaves : goal.returns-clause-leaves
returns-clause-leaves g c =
    let m = meaning_over g.S.Store in
    leaves_both m c.args.office.now c.look_for_both-2.new.office c.look_for.new.office
    (leaves_both m c.args.office.now c.look_for_both.new.office c.look_for_both-2.new.office c.in_ok-look_for_both.ensures.leaves c.in_ok-look_for_both-2.ensures.leaves) c.look_for.ensures.leaves

pub returns-clause-looks : goal.returns-clause-looks
returns-clause-looks g c =
    let m = meaning_over g.S.Store in
    let w = c.args.writers.now in
    let before = leaves_both m c.args.office.now c.look_for_both.new.office c.look_for_both-2.new.office c.in_ok-look_for_both.ensures.leaves c.in_ok-look_for_both-2.ensures.leaves in
    looks_as m c.args.office.now c.look_for.new.office (Five w) (λ t. ShowsWriters t (writers_meant w)) c.look_for.result (λ t shows. are_all w t (c.is_none.ensures ∙ ap not c.if-is_none.false) shows) (in_order w)
    (looks_then m c.args.office.now c.look_for_both-2.new.office c.look_for.new.office before c.look_for.ensures.leaves (Four w) (λ t. ShowsIf t (boxed_meant w.holds)) c.look_for.result
    (looks_then m c.args.office.now c.look_for_both.new.office c.look_for_both-2.new.office c.in_ok-look_for_both.ensures.leaves c.in_ok-look_for_both-2.ensures.leaves
    (λ t. ShowsIf t (boxed_meant w.users) × ShowsIf t (boxed_meant w.revisions)) (λ t. ShowsIf t (boxed_meant w.votes) × ShowsIf t (boxed_meant w.baselines)) (Ok tt) c.in_ok-look_for_both.ensures.looks c.in_ok-look_for_both-2.ensures.looks) c.look_for.ensures.looks)
