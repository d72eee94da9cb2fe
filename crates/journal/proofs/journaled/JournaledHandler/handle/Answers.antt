use Rattle.std.proofs.Common.{◌∙◌, sym}
use Rattle.journal.proofs.Offices.{answered}
use Rattle.journal.proofs.journaled.JournaledHandler.handle.Goals as goal

pub returns-in-Answered : goal.returns-in-Answered
returns-in-Answered g c =
    answered g.O.Handler.meaning g.J.Journal.writing c.args.self.now c.judge.new.self c.args.request.now c.in-Answered.answer
    (sym c.goes_on.ensures ∙ c.if-not-goes_on.false) c.in-Answered.ensures

pub returns-in-Ok : goal.returns-in-Ok
returns-in-Ok g c =
    c.in-Ok.ensures.handled c.args.self.now.office (sym c.goes_on.ensures ∙ c.if-not-goes_on.false) c.in-Allowed.ensures

pub returns-in-Err : goal.returns-in-Err
returns-in-Err g c =
    c.in-Err.ensures.handled c.args.self.now.office (sym c.goes_on.ensures ∙ c.if-not-goes_on.false) c.in-Allowed.ensures

pub do_allowed-requires : goal.do_allowed-requires
do_allowed-requires g c = (c.args.self.now.office, c.in-Allowed.ensures)
