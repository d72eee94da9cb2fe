use Rattle.widening.proofs.GroupFacts.{found_at, not_found}
use Rattle.widening.proofs.groups.find_name.Goals as goal

pub returns-in-Ok : goal.returns-in-Ok
returns-in-Ok c = (c.in-Ok.ensures.bound, found_at c.args.names.now c.args.name.now c.in-Ok.at c.in-Ok.ensures.ok)

pub returns-in-Err : goal.returns-in-Err
returns-in-Err c = λ at. not_found c.args.names.now c.args.name.now _ at c.requires c.in-Err.ensures.position
