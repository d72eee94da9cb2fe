use Rattle.std.proofs.Common.{option_map}
use Rattle.office_policy.specs.Happened.{event_meant}
use Rattle.review_office.specs.Meant.{meaning_over}
use Rattle.journal.specs.Writers.{writers_meant}
use Rattle.journal_office.specs.Mending.{Asks}
use Rattle.journal_office.proofs.AskFacts.{answered, leaves_both, not_answered, not_looked}
use Rattle.journal_office.proofs.MendFacts.{left_with}
use Rattle.journal_office.proofs.mending.ask.Goals as goal

pub returns-in_err-last-clause-leaves : goal.returns-in_err-last-clause-leaves
returns-in_err-last-clause-leaves g c = c.in_err-last.ensures.leaves

pub returns-in_err-last-clause-asks : goal.returns-in_err-last-clause-asks
returns-in_err-last-clause-asks g c =
    let m = meaning_over g.S.Store in
    let w = writers_meant c.args.settled in
    let event = option_map event_meant c.args.held in
    left_with (Asks m c.args.office.now c.look_at.new.office w event) c.from_residual.result c.in_err-last.field-0.0 c.from_residual.ensures.1
    (not_looked m c.args.office.now c.look_at.new.office w (writers_meant c.look_at.new.writers) event c.in_err-last.field-0.0 c.in_err-last.ensures.looks)

pub returns-in_err-look_for_all-clause-leaves : goal.returns-in_err-look_for_all-clause-leaves
returns-in_err-look_for_all-clause-leaves g c =
    leaves_both (meaning_over g.S.Store) c.args.office.now c.look_at.new.office c.look_for_all.new.office c.in_ok-last.ensures.leaves c.in_err-look_for_all.ensures.leaves

pub returns-in_err-look_for_all-clause-asks : goal.returns-in_err-look_for_all-clause-asks
returns-in_err-look_for_all-clause-asks g c =
    let m = meaning_over g.S.Store in
    let w = writers_meant c.args.settled in
    let event = option_map event_meant c.args.held in
    left_with (Asks m c.args.office.now c.look_for_all.new.office w event) c.from_residual-in_err-look_for_all.result c.in_err-look_for_all.field-0.0 c.from_residual-in_err-look_for_all.ensures.1
    (not_answered m c.args.office.now c.look_at.new.office c.look_for_all.new.office c.in_ok-last.ensures.leaves c.in_err-look_for_all.ensures.leaves w
    (writers_meant c.look_at.new.writers) event c.in_ok-last.last c.in_ok-last.ensures.looks c.in_err-look_for_all.field-0.0 c.in_err-look_for_all.ensures.looks)

pub returns-clause-leaves : goal.returns-clause-leaves
returns-clause-leaves g c =
    leaves_both (meaning_over g.S.Store) c.args.office.now c.look_at.new.office c.look_for_all.new.office c.in_ok-last.ensures.leaves c.in_ok-look_for_all.ensures.leaves

pub returns-clause-asks : goal.returns-clause-asks
returns-clause-asks g c =
    answered (meaning_over g.S.Store) c.args.office.now c.look_at.new.office c.look_for_all.new.office c.in_ok-last.ensures.leaves c.in_ok-look_for_all.ensures.leaves
    (writers_meant c.args.settled) (writers_meant c.look_at.new.writers) (option_map event_meant c.args.held) c.in_ok-last.last c.in_ok-last.ensures.looks c.in_ok-look_for_all.ensures.looks
