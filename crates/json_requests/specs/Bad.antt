-- The answers to lines that are no requests.
use Rattle.std.specs.Prelude.{ℕ, List, [], ◌∷◌, ◌++◌, codes}
use Rattle.serde_json.specs.Data.{Data, string, object, member, no_members}
use Rattle.serde_json.specs.Written.{compact_text}
use Rattle.json_requests.specs.declared.bad.BadLine.{BadLine}
use Rattle.json_requests.specs.declared.bad.BadLine.TheVariants.{TooLong, NotJson, NotARequest}

abbrev pub bad_word : BadLine → List ℕ
bad_word TooLong = codes "too-long"
bad_word NotJson = codes "not-json"
bad_word NotARequest = codes "not-a-request"

-- the answer that names a word as bad
abbrev pub bad_data : List ℕ → Data
bad_data word =
    object (member (codes "answer") (string (codes "bad"))
    (member (codes "word") (string word) no_members))

-- the text of the answer that names a word as bad
unfoldable pub bad_text : List ℕ → List ℕ
bad_text word = compact_text (bad_data word)

-- the line that answers a bad line: the text that names its word, and a line feed
unfoldable pub bad_line : BadLine → List ℕ
bad_line bad = bad_text (bad_word bad) ++ 10 ∷ []
