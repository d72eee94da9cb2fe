use Rattle.std.proofs.Common.{◌≡◌, ◌∙◌, ℕ, [], None, length, ap, ap₂, lit<}
use Rattle.std.specs.List.{last_or}
use Rattle.std.specs.Prelude.{unwrap_or}
use Rattle.std.proofs.lemmas.Iterator.Consumers.{count_from_yields_List}
use Rattle.std.proofs.lemmas.Iterator.Splits.{YieldsList-from_str_split}
use Rattle.profile_commands.specs.Places.{lines_of}
use Rattle.profile_commands.specs.declared.json_place.JsonPlace.{JsonPlace}
use Rattle.profile_commands.proofs.PlaceFacts.{last_from_yields, viewed_or}
use Rattle.profile_commands.proofs.json_place.end_of.Goals as goal

pub returns : goal.returns
returns c =
    let text = c.args.text.now in
    let count = count_from_yields_List c.split-2.result c.count.result c.count.ensures.ran
    (YieldsList-from_str_split 10 text (lit< tt) c.split-2.ensures.text c.split-2.ensures.has_more c.split-2.ensures.pattern) in
    let last = last_from_yields c.split.result c.last.result c.last.ensures.ran
    (YieldsList-from_str_split 10 text (lit< tt) c.split.ensures.text c.split.ensures.has_more c.split.ensures.pattern) in
    let text_of_last : c.unwrap_or-last.result.now ≡ unwrap_or (last_or None (lines_of text)) [] =
    ap (λ s. s.now) c.unwrap_or-last.ensures ∙ viewed_or (λ s. s.now) c.last.result _ ∙ ap (λ o. unwrap_or o []) last in
    ap₂ (λ (line column : ℕ). let place : JsonPlace = record { line = line; column = column } in place) count (ap length text_of_last)
