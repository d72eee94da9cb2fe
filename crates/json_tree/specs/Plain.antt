-- Texts that stand within quotes as they are.
use Rattle.std.specs.Prelude.{ℕ, List, [], Bool}
use Rattle.std.specs.List.{list_all}
use Rattle.json.specs.Run.{is_plain}
use Rattle.json.specs.Token.{Token, begin_object, end_object, begin_array, end_array, key, string}
use Rattle.json.specs.Token.{number, boolean, null, bad}

-- no byte is a quote, a backslash or below a space
abbrev pub are_plain : List ℕ → Bool
are_plain text = list_all is_plain text

-- what stands within the quotes of a token, where it has any
abbrev pub quoted_in : Token → List ℕ
quoted_in (key s) = s
quoted_in (string s) = s
quoted_in begin_object = []
quoted_in end_object = []
quoted_in begin_array = []
quoted_in end_array = []
quoted_in (number s) = []
quoted_in (boolean b) = []
quoted_in null = []
quoted_in bad = []
