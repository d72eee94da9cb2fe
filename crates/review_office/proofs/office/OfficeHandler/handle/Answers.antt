use Rattle.review_office.proofs.office.OfficeHandler.handle.Goals as goal

pub returns-in-Answered : goal.returns-in-Answered
returns-in-Answered g c = c.in-Answered.ensures.handled

pub returns-in-Ok : goal.returns-in-Ok
returns-in-Ok g c = c.in-Ok.ensures.handled c.args.self.now c.args.request.now c.in-Allowed.ensures

pub returns-in-Err : goal.returns-in-Err
returns-in-Err g c = c.in-Err.ensures.handled c.args.self.now c.args.request.now c.in-Allowed.ensures

pub carry_out-requires : goal.carry_out-requires
carry_out-requires g c = (c.args.self.now, c.args.request.now, c.in-Allowed.ensures)
