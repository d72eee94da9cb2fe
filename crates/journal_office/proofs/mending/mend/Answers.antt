use Rattle.std.proofs.Common.{[], ◌∙◌, option_map, refl, subst, sym}
use Rattle.sealed_log.specs.Told.{told}
use Rattle.sealed_log.proofs.FaultFacts.{later_itself}
use Rattle.office_policy.specs.Happened.{event_meant}
use Rattle.review_office.specs.Meant.{meaning_over}
use Rattle.journal.specs.Kept.{IsKept, keeps}
use Rattle.journal.specs.Writers.{writers_meant}
use Rattle.journal_faults.specs.Faults.{line_fault, log_fault}
use Rattle.journal_faults.specs.declared.not_reopened.NotReopened.TheVariants.{NoMemory}
use Rattle.journal_office.specs.Mending.{Mends}
use Rattle.journal_office.proofs.MendFacts.{by_file, left_with, log_outside, no_journal, no_seal_there, not_read, seen_on}
use Rattle.journal_office.proofs.mending.mend.Goals as goal
use Rattle.no_memory.specs.Witness.{witness}

pub returns-in_err-kept : goal.returns-in_err-kept
returns-in_err-kept g c =
    left_with (Mends (meaning_over g.S.Store) g.D.Disk c.args.mark c.args.office.now c.args.office.now c.args.log.now c.args.log.now) c.from_residual.result (NoMemory witness) c.from_residual.ensures.1
    (not_read (meaning_over g.S.Store) g.D.Disk c.args.mark c.args.office.now c.args.log.now c.args.log.now (record { seen = refl; usable = refl; counts = later_itself g.D.Disk c.args.log.now.disk; clean = λ clean. clean; crash = λ left may. may }) (NoMemory witness) tt (λ clean. tt))

pub read-requires : goal.read-requires
read-requires g c = record { begun = subst (keeps []) (sym c.deref_mut.ensures.value) c.in_ok-kept.ensures }

pub returns-in_err-found : goal.returns-in_err-found
returns-in_err-found g c =
    left_with (Mends (meaning_over g.S.Store) g.D.Disk c.args.mark c.args.office.now c.args.office.now c.args.log.now c.read.new.self) c.from_residual-in_err-found.result
    (log_fault c.in_err-found.field-0.0) c.from_residual-in_err-found.ensures.1
    (not_read (meaning_over g.S.Store) g.D.Disk c.args.mark c.args.office.now c.args.log.now c.read.new.self
    (record { seen = c.read.ensures.seen; usable = c.read.ensures.usable; counts = c.read.ensures.counts; clean = c.read.ensures.clean; crash = c.read.ensures.crash }) (log_fault c.in_err-found.field-0.0) (log_outside c.in_err-found.field-0.0)
    (λ clean. by_file g.D.Disk c.args.log.now.disk c.read.new.self.disk c.in_err-found.field-0.0 (λ usable. c.in_err-found.ensures.word usable clean)))

pub returns-then-lines-eq0 : goal.returns-then-lines-eq0
returns-then-lines-eq0 g c =
    no_seal_there (meaning_over g.S.Store) g.D.Disk c.args.mark c.args.office.now c.args.log.now c.read.new.self
    (record { seen = c.read.ensures.seen; usable = c.read.ensures.usable; counts = c.read.ensures.counts; clean = c.read.ensures.clean; crash = c.read.ensures.crash }) c.in_ok-found.found c.in_ok-found.ensures.through
    (sym c.lines.ensures ∙ c.if-lines-eq0.true)

pub returns-in_err-settled : goal.returns-in_err-settled
returns-in_err-settled g c =
    left_with (Mends (meaning_over g.S.Store) g.D.Disk c.args.mark c.args.office.now c.args.office.now c.args.log.now c.read.new.self) c.from_residual-in_err-settled.result
    (line_fault c.in_err-settled.field-0.0) c.from_residual-in_err-settled.ensures.1
    (no_journal (meaning_over g.S.Store) g.D.Disk c.args.mark c.args.office.now c.args.log.now c.read.new.self
    (record { seen = c.read.ensures.seen; usable = c.read.ensures.usable; counts = c.read.ensures.counts; clean = c.read.ensures.clean; crash = c.read.ensures.crash }) c.in_err-settled.field-0.0
    (λ clean. c.in_err-settled.ensures _ (subst (keeps _) (sym c.into_inner.ensures) (c.in_ok-found.ensures.keeps clean))))

pub set_right-requires-clause-keeps : goal.set_right-requires-clause-keeps
set_right-requires-clause-keeps g c = λ clean.
    subst (λ f. IsKept (told f) (writers_meant c.in_ok-settled.settled) (option_map event_meant c.in_ok-settled.held)) (sym c.read.ensures.seen) (c.in_ok-settled.ensures _ (subst (keeps _) (sym c.into_inner.ensures) (c.in_ok-found.ensures.keeps clean)))

pub returns : goal.returns
returns g c =
    seen_on (meaning_over g.S.Store) g.D.Disk c.args.mark c.args.office.now c.set_right.new.office c.args.log.now c.read.new.self c.set_right.new.log c.set_right.result
    (record { seen = c.read.ensures.seen; usable = c.read.ensures.usable; counts = c.read.ensures.counts; clean = c.read.ensures.clean; crash = c.read.ensures.crash }) c.set_right.ensures
