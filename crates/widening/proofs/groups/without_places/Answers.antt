use Rattle.std.proofs.Common.{◌≡◌, arith, length}
use Rattle.std.proofs.lemmas.Grind.{common_steps}
use Rattle.widening.proofs.GroupFacts.{none_grouped}
use Rattle.widening.proofs.groups.without_places.Goals as goal

pub returns : goal.returns
returns c =
    let count : length c.loop.groups.items ≡ length c.args.names.now = grind (arith, common_steps) in
    none_grouped c.args.names.now c.loop.groups.items count c.loop.invariant.empty
