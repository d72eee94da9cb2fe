use Rattle.std.proofs.Common.{ap, subst, sym}
use Rattle.office_policy.specs.Happened.{event_meant}
use Rattle.review_office.specs.Meant.{meaning_over}
use Rattle.journal_reports.specs.Lines.{looked_up}
use Rattle.journal_reports.specs.Writing.{LooksUp}
use Rattle.journal_reports.proofs.Writing.{not_looked_up}
use Rattle.journal_reports.proofs.history.look_up.Goals as goal

pub returns-in-Founded : goal.returns-in-Founded
returns-in-Founded g c = λ bytes here es before.
    not_looked_up (meaning_over g.S.Store) bytes here es c.args.office.now (event_meant c.args.event.now) before (λ h. ap (λ e. looked_up (event_meant e) h) (sym c.in-Founded.is))

pub returns-in-Did : goal.returns-in-Did
returns-in-Did g c = λ bytes here es before.
    subst (λ e. LooksUp bytes (meaning_over g.S.Store) here es c.args.office.now c.look_up_deed.new.office (event_meant e) c.look_up_deed.result) (sym c.in-Did.is)
    (c.look_up_deed.ensures bytes here es c.in-Did.caller before)
