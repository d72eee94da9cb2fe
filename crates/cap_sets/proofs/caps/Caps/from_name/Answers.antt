use Rattle.std.proofs.Common.{◌∙◌}
use Rattle.cap_sets.proofs.Naming.{find_number, named_below, single_of_name, nobody_named}
use Rattle.cap_sets.proofs.caps.Caps.from_name.Goals as goal

pub invariant_of-result : goal.invariant_of-result
invariant_of-result c = named_below c.args.name.now _ (c.in-Some.ensures tt ∙ find_number c.args.name.now)

pub returns-in-Some : goal.returns-in-Some
returns-in-Some c =
    let value = c.in-Some.ensures tt ∙ find_number c.args.name.now in
    record { named = single_of_name c.args.name.now _ value; unknown = tt; value = value }

pub returns-in-None : goal.returns-in-None
returns-in-None c =
    let value = c.in-None.ensures tt ∙ find_number c.args.name.now in
    record { named = tt; unknown = nobody_named c.args.name.now value; value = value }
