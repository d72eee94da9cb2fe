use Rattle.std.proofs.Common.{rules, tests, lit<}
use Rattle.std.proofs.lemmas.Iterator.Search.{find_from_yields_List}
use Rattle.std.proofs.lemmas.Iterator.Splits.{YieldsList-from_str_split}
use Rattle.profile_commands.specs.Lists.{is_unknown}
use Rattle.profile_commands.proofs.list.unknown_part.Goals as goal

pub returns : goal.returns
returns c =
    find_from_yields_List is_unknown _ _ _ c.find.ensures.ran (YieldsList-from_str_split 44 c.args.list.now (lit< tt) c.split.ensures.text c.split.ensures.has_more c.split.ensures.pattern) (λ x b q k. search (rules, tests))
