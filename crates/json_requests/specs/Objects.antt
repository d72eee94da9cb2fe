-- Objects with just the members that they should have: lines, and the bodies of requests.
use Rattle.std.specs.Prelude.{ℕ, ◌&&◌, List, Bool, true, false}
use Rattle.std.specs.List.{list_any}
use Rattle.std.specs.Str.{bytes_eq}
use Rattle.serde_json.specs.Data.{Data, null, boolean, number, string, array, object, Members}
use Rattle.serde_json.specs.Data.{no_members, member}

-- whether each member has one of these names
abbrev pub all_belong : List (List ℕ) → Members → Bool
all_belong names no_members = true
all_belong names (member name d ms) = list_any (bytes_eq name) names && all_belong names ms

-- whether a value is an object with no member but these
abbrev pub has_no_other : List (List ℕ) → Data → Bool
has_no_other names (object ms) = all_belong names ms
has_no_other names null = false
has_no_other names (boolean b) = false
has_no_other names (number n) = false
has_no_other names (string s) = false
has_no_other names (array ds) = false
