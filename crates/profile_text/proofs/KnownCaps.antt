-- What a document reads as has known capabilities alone.
use Rattle.std.proofs.Common.{◌≡◌, ℕ, ◌+◌, ◌^◌, ◌<◌, List, [], ◌∷◌, length, Option, Some, None, Bool, true, false, cond, bytes_eq, sym, subst, arith, lit<}
use Rattle.std.proofs.Math.Pow.{pow-lt}
use Rattle.std.proofs.lemmas.Nat.{or_lt}
use Rattle.std.specs.Prelude.{codes}
use Rattle.serde_json.specs.Data.{Data, null, boolean, number, string, array, object, Items, no_items, item}
use Rattle.cap_sets.specs.Capability.{number_from, cap_names}
use Rattle.cap_sets.specs.declared.state.CapState.{CapState}
use Rattle.profile_text.specs.declared.sets.CapSet.TheVariants.{Ambient, Bounding, Effective, Inheritable, Permitted}
use Rattle.profile_text.specs.Reads.{Names, AllName, StandsForSet, StandsForCaps, HasKnownCaps}
use Rattle.profile_text.specs.Shape.{member_of}
use Rattle.profile_text.specs.Sets.{cap_of, caps_of}
use Rattle.profile_text.proofs.NameFacts.{named_is, listed_set}

number_within_by : (n m : ℕ) (b : Bool) (o : Option ℕ) (count : ℕ) → (o ≡ Some m → m < n + 1 + count) → cond b (Some n) o ≡ Some m → m < n + (1 + count)
number_within_by n m true o count later e = let same : n ≡ m = cc in omega arith
number_within_by n m false o count later e = let within = later e in omega arith

-- a number that a name has is that of a name in the table
number_within : (n : ℕ) (names : List (List ℕ)) (name : List ℕ) (m : ℕ) → number_from n names name ≡ Some m → m < n + length names
unfolding number_from
number_within n [] name m e = absurd (cc)
number_within n (first ∷ names) name m e =
    let within = number_within_by n m (bytes_eq first name) (number_from (n + 1) names name) (length names) (number_within (n + 1) names name m) e in
    omega arith

known_number : (d : Data) (n : ℕ) → Names d n → n < 41
known_number (string s) n h = number_within 0 cap_names s n h
known_number null n h = absurd h
known_number (boolean b) n h = absurd h
known_number (number x) n h = absurd h
known_number (array ds) n h = absurd h
known_number (object ms) n h = absurd h

known_caps : (ds : Items) → AllName ds → caps_of ds < 2 ^ 41
unfolding caps_of
known_caps no_items all = lit< tt
known_caps (item d ds) all =
    or_lt 41 (cap_of d) (caps_of ds) (subst (λ (x : ℕ). x < 2 ^ 41) (sym (named_is d all.0.0 all.0.1)) (pow-lt (known_number d all.0.0 all.0.1))) (known_caps ds all.1)

-- a set that a value stands for
pub known_set : (o : Option Data) (caps : ℕ) → StandsForSet o caps → caps < 2 ^ 41
known_set None caps h = rw h (lit< tt)
known_set (Some null) caps h = rw h (lit< tt)
known_set (Some (array ds)) caps h = subst (λ (x : ℕ). x < 2 ^ 41) (listed_set ds caps h) (known_caps ds h.0)
known_set (Some (boolean b)) caps h = absurd h
known_set (Some (number n)) caps h = absurd h
known_set (Some (string s)) caps h = absurd h
known_set (Some (object ms)) caps h = absurd h

-- five sets that a value stands for
pub known_by : (d : Data) (s : CapState) → StandsForCaps d s → HasKnownCaps s
known_by (object ms) s h = record {
  effective = known_set (member_of (codes "effective") ms) s.effective (h Effective);
  permitted = known_set (member_of (codes "permitted") ms) s.permitted (h Permitted);
  inheritable = known_set (member_of (codes "inheritable") ms) s.inheritable (h Inheritable);
  bounding = known_set (member_of (codes "bounding") ms) s.bounding (h Bounding);
  ambient = known_set (member_of (codes "ambient") ms) s.ambient (h Ambient);
}
known_by null s h = absurd h
known_by (boolean b) s h = absurd h
known_by (number n) s h = absurd h
known_by (string t) s h = absurd h
known_by (array ds) s h = absurd h
