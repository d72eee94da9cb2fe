-- The path and the query of a target (RFC 3986, sections 3.3 and 3.4).
use Rattle.std.specs.Prelude.{ℕ, ◌+◌, ◌==◌, List, Bool, Option, None, option_map, take, drop, codes}
use Rattle.std.specs.Prelude.{bytes_eq, if◌then◌else◌}
use Rattle.std.specs.List.{before_first, position}
use Rattle.http_requests.specs.Numbers.{revision_number_of}

-- a question mark
abbrev pub is_mark : ℕ → Bool
is_mark b = b == 63

-- what stands before the first question mark, or all
abbrev pub path_of : List ℕ → List ℕ
path_of target = before_first is_mark target

-- what stands behind the first question mark, where there is one
abbrev pub query_of : List ℕ → Option (List ℕ)
query_of target = option_map (λ at. drop (at + 1) target) (position is_mark target)

-- the number N of the query `before=N`
abbrev pub before_of : List ℕ → Option ℕ
before_of query =
    if bytes_eq (take 7 query) (codes "before=") then revision_number_of (drop 7 query) else None
