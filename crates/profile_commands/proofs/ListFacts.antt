-- The set that a LIST writes.
use Rattle.std.proofs.Common.{◌≡◌, ℕ, ◌<◌, Bool, true, false, cond, map, List, [], ◌∷◌, Option, None, Some, length, refl, sym, ap, arith}
use Rattle.std.specs.Prelude.{◌==◌, option_and_then, option_map}
use Rattle.std.specs.List.{after_first, before_first, find, position_or_len}
use Rattle.std.specs.Int.RustNames.{bit_or}
use Rattle.std.proofs.lemmas.List.Elements.{All-from_get_or}
use Rattle.std.proofs.lemmas.List.Splits.{slice_split_first, slice_split_none}
use Rattle.std.proofs.lemmas.List.Sums.{fails_before_first}
use Rattle.cap_sets.specs.Capability.{number_named, single, with_names}
use Rattle.profile_commands.specs.Lists.{parts_of}

abbrev is_comma : ℕ → Bool
is_comma byte = byte == 44

-- a text with a comma has a first part, and the parts of what follows it
parts_of-comma : (list : List ℕ) → position_or_len is_comma list < length list → parts_of list ≡ before_first is_comma list ∷ parts_of (after_first is_comma list)
parts_of-comma list lt = slice_split_first is_comma list 0 lt

-- a text without a comma is its one part
parts_of-alone : (list : List ℕ) → position_or_len is_comma list ≡ length list → parts_of list ≡ list ∷ []
parts_of-alone list none = slice_split_none is_comma list
    (All-from_get_or (λ byte. is_comma byte ≡ false) list 0 (λ i lt. fails_before_first is_comma list i 0 (omega arith)))

-- a name that is one's adds its capability
more_at : (o : Option ℕ) (caps more : ℕ) (names : List (List ℕ)) → Some more ≡ option_map (λ number. bit_or caps (single number)) o
    → option_and_then (λ number. with_names (bit_or caps (single number)) names) o ≡ with_names more names
more_at None caps more names e = cc
more_at (Some number) caps more names e = let same : bit_or caps (single number) ≡ more = cc in ap (λ c. with_names c names) same

none_at : (o : Option ℕ) (caps : ℕ) (names : List (List ℕ)) → None ≡ option_map (λ number. bit_or caps (single number)) o
    → option_and_then (λ number. with_names (bit_or caps (single number)) names) o ≡ None
none_at None caps names e = refl
none_at (Some number) caps names e = cc

-- one step over a name that is one's, and over one that is none's
pub step_named : (caps more : ℕ) (list name others : List ℕ) → position_or_len is_comma list < length list
    → name ≡ before_first is_comma list → others ≡ after_first is_comma list
    → Some more ≡ option_map (λ number. bit_or caps (single number)) (number_named name)
    → with_names more (parts_of others) ≡ with_names caps (parts_of list)
step_named caps more list name others lt first rest named =
    rw (parts_of-comma list lt, ← first, ← rest) (sym (more_at (number_named name) caps more (parts_of others) named))

pub step_unknown : (caps : ℕ) (list name : List ℕ) → position_or_len is_comma list < length list → name ≡ before_first is_comma list
    → None ≡ option_map (λ number. bit_or caps (single number)) (number_named name)
    → with_names caps (parts_of list) ≡ None
step_unknown caps list name lt first unknown =
    rw (parts_of-comma list lt, ← first) (none_at (number_named name) caps _ unknown)

-- the last name
last_at : (o : Option ℕ) (caps : ℕ) → option_and_then (λ number. with_names (bit_or caps (single number)) []) o ≡ option_map (λ number. bit_or caps (single number)) o
last_at None caps = refl
last_at (Some number) caps = refl

pub last_named : (caps : ℕ) (list : List ℕ) → position_or_len is_comma list ≡ length list
    → with_names caps (parts_of list) ≡ option_map (λ number. bit_or caps (single number)) (number_named list)
last_named caps list none = rw (parts_of-alone list none) (last_at (number_named list) caps)

-- the first of some views that passes is the view of the first whose view does
one_viewed : {A B : Type 0} (v : A → B) (x : A) (passes : Bool) (other : Option A) (others : Option B) → option_map v other ≡ others
    → option_map v (cond passes (Some x) other) ≡ cond passes (Some (v x)) others
one_viewed v x true other others same = refl
one_viewed v x false other others same = same

pub find_viewed : {A B : Type 0} (v : A → B) (test : B → Bool) (xs : List A) → option_map v (find (λ x. test (v x)) xs) ≡ find test (map v xs)
find_viewed v test [] = refl
find_viewed v test (x ∷ xs) = one_viewed v x (test (v x)) (find (λ y. test (v y)) xs) (find test (map v xs)) (find_viewed v test xs)

pub same_option : {A : Type 0} (o : Option A) → option_map (λ x. x) o ≡ o
same_option None = refl
same_option (Some x) = refl
