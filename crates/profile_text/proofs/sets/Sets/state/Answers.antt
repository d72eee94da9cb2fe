use Rattle.profile_text.proofs.StateFacts.{state_told}
use Rattle.profile_text.proofs.sets.Sets.state.Goals as goal

pub returns : goal.returns
returns c = state_told c.args.self c.new.result c.new.ensures.sets c.new.ensures.fault
