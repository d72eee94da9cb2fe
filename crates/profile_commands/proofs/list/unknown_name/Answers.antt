use Rattle.std.proofs.Common.{◌∙◌, ap, rules, tests, sym}
use Rattle.std.specs.Prelude.{option_copied}
use Rattle.std.proofs.lemmas.Iterator.{YieldsList-from_slice}
use Rattle.std.proofs.lemmas.Iterator.Consumers.{YieldsList-from_copied}
use Rattle.std.proofs.lemmas.Iterator.Search.{find_from_yields_List}
use Rattle.profile_commands.specs.Lists.{is_unknown}
use Rattle.profile_commands.proofs.ListFacts.{find_viewed, same_option}
use Rattle.profile_commands.proofs.list.unknown_name.Goals as goal

pub returns : goal.returns
returns c =
    let found = find_from_yields_List (λ x. is_unknown x.now) _ _ c.find.result c.find.ensures.ran (YieldsList-from_copied (YieldsList-from_slice c.args.names.now cc)) (λ x b q k. search (rules, tests)) in
    ap option_copied (sym (same_option c.find.result) ∙ found) ∙ find_viewed (λ x. x.now) is_unknown c.args.names.now
