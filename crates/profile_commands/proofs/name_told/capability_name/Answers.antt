-- The name of the capability of a number.
use Rattle.std.proofs.Common.{◌≡◌, ◌∙◌, refl, rules, ap}
use Rattle.std.proofs.lemmas.Iterator.Consumers.{nth_from_yields_List, YieldsList-from_first}
use Rattle.cap_sets.specs.Capability.{cap_names, names_from, names_of}
use Rattle.profile_commands.proofs.name_told.capability_name.Goals as goal

-- the names of all capabilities
all_names : names_of 2199023255551 ≡ cap_names
unfolding names_from
all_names = refl

pub returns : goal.returns
returns c =
    let all : c.in_ok-all.all ≡ 2199023255551 = search rules in
    nth_from_yields_List _ _ c.args.number c.nth.ensures.ran (YieldsList-from_first _ _ _ (c.names.ensures.rising ∙ ap names_of all ∙ all_names))
