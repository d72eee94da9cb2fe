use Rattle.std.proofs.Common.{ap, sym}
use Rattle.office_policy.specs.History.{did}
use Rattle.office_policy.specs.Revisions.{last_revision, revision_of}
use Rattle.review_office.specs.Meant.{meaning_over}
use Rattle.journal_reports.specs.Lines.{looked_up}
use Rattle.journal_reports.proofs.Writing.{looked_back, not_looked_up}
use Rattle.journal_reports.proofs.history.look_up_deed.Goals as goal

pub returns-in-Enrol : goal.returns-in-Enrol
returns-in-Enrol g c = λ bytes here es caller before.
    not_looked_up (meaning_over g.S.Store) bytes here es c.args.office.now (did caller c.args.deed.now) before (λ h. ap (λ deed. looked_up (did caller deed) h) (sym c.in-Enrol.is))

pub returns-in-ActOnProfile : goal.returns-in-ActOnProfile
returns-in-ActOnProfile g c = λ bytes here es caller before.
    not_looked_up (meaning_over g.S.Store) bytes here es c.args.office.now (did caller c.args.deed.now) before (λ h. ap (λ deed. looked_up (did caller deed) h) (sym c.in-ActOnProfile.is))

pub returns-in-Submit : goal.returns-in-Submit
returns-in-Submit g c = λ bytes here es caller before.
    looked_back (meaning_over g.S.Store) bytes here es c.args.office.now c.last_revision.new.self before (did caller c.args.deed.now) (λ h. last_revision h c.in-Submit.name)
    c.last_revision.result c.last_revision.ensures (λ h. ap (λ deed. looked_up (did caller deed) h) (sym c.in-Submit.is))

pub returns-in-Vote : goal.returns-in-Vote
returns-in-Vote g c = λ bytes here es caller before.
    looked_back (meaning_over g.S.Store) bytes here es c.args.office.now c.revision.new.self before (did caller c.args.deed.now) (λ h. revision_of h c.in-Vote.name c.in-Vote.revision)
    c.revision.result c.revision.ensures (λ h. ap (λ deed. looked_up (did caller deed) h) (sym c.in-Vote.is))

pub returns-in-ActOnRevision : goal.returns-in-ActOnRevision
returns-in-ActOnRevision g c = λ bytes here es caller before.
    looked_back (meaning_over g.S.Store) bytes here es c.args.office.now c.revision-in-ActOnRevision.new.self before (did caller c.args.deed.now) (λ h. revision_of h c.in-ActOnRevision.name c.in-ActOnRevision.revision)
    c.revision-in-ActOnRevision.result c.revision-in-ActOnRevision.ensures (λ h. ap (λ deed. looked_up (did caller deed) h) (sym c.in-ActOnRevision.is))
