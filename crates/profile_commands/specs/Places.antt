-- Places in a text.
use Rattle.std.specs.Prelude.{ℕ, ◌==◌, List, [], length, None, unwrap_or}
use Rattle.std.specs.List.{last_or, slice_split}
use Rattle.profile_commands.specs.declared.json_place.JsonPlace.{JsonPlace}

-- the parts of a text between line feeds; the last stands behind them all
abbrev pub lines_of : List ℕ → List (List ℕ)
lines_of text = slice_split (λ byte. byte == 10) text

-- where a text ends: how many lines it has, and how many bytes the last of them
abbrev pub end_of : List ℕ → JsonPlace
end_of text = record {
  line = length (lines_of text);
  column = length (unwrap_or (last_or None (lines_of text)) []);
}
