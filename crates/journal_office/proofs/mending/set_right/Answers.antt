use Rattle.std.proofs.Common.{inr, option_map}
use Rattle.office_policy.specs.Happened.{event_meant}
use Rattle.review_office.specs.Meant.{meaning_over}
use Rattle.journal.specs.Writers.{writers_meant}
use Rattle.journal_office.specs.Mending.{Mends}
use Rattle.journal_office.proofs.MendFacts.{by_file, left_with, log_outside, not_asked, not_cut, not_struck, same_bodies, stays_settled, stays_shown, struck_out}
use Rattle.journal_office.proofs.mending.set_right.Goals as goal

pub returns-in_err-last : goal.returns-in_err-last
returns-in_err-last g c =
    left_with (Mends (meaning_over g.S.Store) g.D.Disk c.args.mark c.args.office.now c.ask.new.office c.args.log.now c.args.log.now) c.from_residual.result c.in_err-last.field-0.0
    c.from_residual.ensures.1
    (not_asked (meaning_over g.S.Store) g.D.Disk c.args.mark c.args.office.now c.ask.new.office c.args.log.now (writers_meant c.args.settled) (option_map event_meant c.args.held)
    c.ask.ensures.leaves c.requires.keeps c.in_err-last.field-0.0 c.in_err-last.ensures.asks)

pub returns-in_err-open_at : goal.returns-in_err-open_at
returns-in_err-open_at g c =
    left_with (Mends (meaning_over g.S.Store) g.D.Disk c.args.mark c.args.office.now c.ask.new.office c.args.log.now c.open_at.new.self) c.from_residual-in_err-open_at.result _
    c.from_residual-in_err-open_at.ensures.1
    (not_cut (meaning_over g.S.Store) g.D.Disk c.args.mark c.args.office.now c.ask.new.office c.args.log.now (writers_meant c.args.settled) (option_map event_meant c.args.held)
    c.ask.ensures.leaves c.requires.keeps c.open_at.new.self c.open_at.ensures.counts c.open_at.ensures.clean (λ clean. c.open_at.ensures.crash clean _) _ (log_outside _)
    (by_file g.D.Disk c.args.log.now.disk c.open_at.new.self.disk _ (λ usable. inr (c.in_err-open_at.ensures.word usable))))

pub returns-in-Shown : goal.returns-in-Shown
returns-in-Shown g c =
    stays_shown (meaning_over g.S.Store) g.D.Disk c.args.mark c.args.office.now c.ask.new.office c.args.log.now (writers_meant c.args.settled) (option_map event_meant c.args.held)
    c.ask.ensures.leaves c.requires.keeps c.open_at.new.self c.open_at.ensures.counts c.open_at.ensures.clean (λ clean. c.open_at.ensures.crash clean _) c.in_ok-open_at.ensures.opened
    (λ clean. same_bodies g.D.Disk c.args.log.now c.open_at.new.self (c.in_ok-open_at.ensures.has clean)) (λ clean. c.requires.whole (c.open_at.ensures.clean clean))
    c.requires.marked c.in_ok-last.last c.in_ok-last.ensures.asks c.in-Shown.is

pub returns-in-Settled : goal.returns-in-Settled
returns-in-Settled g c =
    stays_settled (meaning_over g.S.Store) g.D.Disk c.args.mark c.args.office.now c.ask.new.office c.args.log.now (writers_meant c.args.settled) (option_map event_meant c.args.held)
    c.ask.ensures.leaves c.requires.keeps c.open_at.new.self c.open_at.ensures.counts c.open_at.ensures.clean (λ clean. c.open_at.ensures.crash clean _) c.in_ok-open_at.ensures.opened
    (λ clean. same_bodies g.D.Disk c.args.log.now c.open_at.new.self (c.in_ok-open_at.ensures.has clean)) (λ clean. c.requires.whole (c.open_at.ensures.clean clean))
    c.requires.marked c.in_ok-last.last c.in_ok-last.ensures.asks c.in-Settled.is

pub returns-in_ok-strike_out-in-Unshown : goal.returns-in_ok-strike_out-in-Unshown
returns-in_ok-strike_out-in-Unshown g c =
    struck_out (meaning_over g.S.Store) g.D.Disk c.args.mark c.args.office.now c.ask.new.office c.args.log.now (writers_meant c.args.settled) (option_map event_meant c.args.held)
    c.ask.ensures.leaves c.requires.keeps c.open_at.new.self c.open_at.ensures.counts c.open_at.ensures.clean (λ clean. c.open_at.ensures.crash clean _) c.in_ok-open_at.ensures.opened
    (λ clean. same_bodies g.D.Disk c.args.log.now c.open_at.new.self (c.in_ok-open_at.ensures.has clean)) (λ clean. c.requires.whole (c.open_at.ensures.clean clean))
    c.requires.marked c.in_ok-last.last c.in_ok-last.ensures.asks c.strike_out.new.log c.in-Unshown.is c.in_ok-strike_out-in-Unshown.ensures

pub returns-in_err-strike_out-in-Unshown : goal.returns-in_err-strike_out-in-Unshown
returns-in_err-strike_out-in-Unshown g c =
    left_with (Mends (meaning_over g.S.Store) g.D.Disk c.args.mark c.args.office.now c.ask.new.office c.args.log.now c.strike_out.new.log) c.from_residual-in_err-strike_out-in-Unshown.result
    c.in_err-strike_out-in-Unshown.field-0.0 c.from_residual-in_err-strike_out-in-Unshown.ensures.1
    (not_struck (meaning_over g.S.Store) g.D.Disk c.args.mark c.args.office.now c.ask.new.office c.args.log.now (writers_meant c.args.settled) (option_map event_meant c.args.held)
    c.ask.ensures.leaves c.requires.keeps c.open_at.new.self c.open_at.ensures.counts c.open_at.ensures.clean (λ clean. c.open_at.ensures.crash clean _) c.in_ok-open_at.ensures.opened
    (λ clean. same_bodies g.D.Disk c.args.log.now c.open_at.new.self (c.in_ok-open_at.ensures.has clean)) (λ clean. c.requires.whole (c.open_at.ensures.clean clean))
    c.requires.marked c.in_ok-last.last c.in_ok-last.ensures.asks c.strike_out.new.log c.in_err-strike_out-in-Unshown.field-0.0 c.in_err-strike_out-in-Unshown.ensures)
