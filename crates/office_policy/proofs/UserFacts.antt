-- Users of a history, and who shows a digest.
use Rattle.std.proofs.Common.{◌≡◌, ◌≢◌, ◌∙◌, ℕ, List, [], ◌∷◌, Bool, true, false, ◌||◌, cond, Some, None, Option, refl, sym, ap, subst}
use Rattle.std.specs.Prelude.{bytes_eq, find, option_and_then}
use Rattle.std.specs.List.{list_any}
use Rattle.std.proofs.lemmas.Slice.Eq.{bytes_eq-Decides}
use Rattle.office_words.specs.declared.row.UserRow.{UserRow}
use Rattle.office_policy.specs.History.{founded, enrolled, History}
use Rattle.office_policy.specs.Users.{user_of, names_of, shows_digest, user_showing}
use Rattle.office_policy.specs.Laws.{AreApart}

pub same_bytes : (xs ys : List ℕ) → bytes_eq xs ys ≡ true → xs ≡ ys
same_bytes xs ys e = (bytes_eq-Decides xs ys).0 e

pub bytes_same : (xs ys : List ℕ) → xs ≡ ys → bytes_eq xs ys ≡ true
bytes_same xs ys e = (bytes_eq-Decides xs ys).1 e

-- a row that was put in is found under its own name alone
put_in : (name n : List ℕ) (new : UserRow) (old : Option UserRow) (u : UserRow) → new.name ≡ n → (old ≡ Some u → u.name ≡ name)
    → cond (bytes_eq name n) (Some new) old ≡ Some u → u.name ≡ name
put_in name n new old u is before e =
    elim (bytes_eq name n) as (λ b. bytes_eq name n ≡ b → cond b (Some new) old ≡ Some u → u.name ≡ name) [
      | true ↦ λ same at. let here : name ≡ n = same_bytes name n same in let row : new ≡ u = cc in sym (ap (λ r. r.name) row) ∙ is ∙ sym here
      | false ↦ λ same at. before at
    ] refl e

-- a user is found under its own name
pub user_named : (h : History) (name : List ℕ) (u : UserRow) → user_of h name ≡ Some u → u.name ≡ name
user_named [] name u e = absurd (cc)
user_named (founded n t d l ∷ h) name u e = put_in name n _ (user_of h name) u refl (user_named h name u) e
user_named (enrolled c n t r d ∷ h) name u e = put_in name n _ (user_of h name) u refl (user_named h name u) e
user_named (_ ∷ h) name u e = user_named h name u e

-- a row that was put in has its name among those enrolled
among_more : (b : Bool) (new : UserRow) (old : Option UserRow) (u : UserRow) (others : Bool) → (old ≡ Some u → others ≡ true)
    → cond b (Some new) old ≡ Some u → (b || others) ≡ true
among_more true new old u others before e = refl
among_more false new old u others before e = before e

-- the name of a user is among those enrolled
pub named_among : (h : History) (name : List ℕ) (u : UserRow) → user_of h name ≡ Some u → list_any (bytes_eq name) (names_of h) ≡ true
named_among [] name u e = absurd (cc)
named_among (founded n t d l ∷ h) name u e = among_more (bytes_eq name n) _ (user_of h name) u _ (named_among h name u) e
named_among (enrolled c n t r d ∷ h) name u e = among_more (bytes_eq name n) _ (user_of h name) u _ (named_among h name u) e
named_among (_ ∷ h) name u e = named_among h name u e

-- what a search finds passes the test
pub found_passes : {X : Type 0} (p : X → Bool) (xs : List X) (x : X) → find p xs ≡ Some x → p x ≡ true
found_passes p [] x e = absurd (cc)
found_passes p (y ∷ ys) x e =
    elim (p y) as (λ b. p y ≡ b → cond b (Some y) (find p ys) ≡ Some x → p x ≡ true) [
      | true ↦ λ passes at. let here : y ≡ x = cc in subst (λ z. p z ≡ true) here passes
      | false ↦ λ passes at. found_passes p ys x at
    ] refl e

-- a search finds something where a name of the list passes
pub some_found : (p : List ℕ → Bool) (name : List ℕ) (names : List (List ℕ)) → list_any (bytes_eq name) names ≡ true → p name ≡ true
    → (x : List ℕ) × (find p names ≡ Some x)
some_found p name [] among passes = absurd (cc)
some_found p name (n ∷ names) among passes =
    elim (p n) as (λ b. p n ≡ b → (x : List ℕ) × (cond b (Some n) (find p names) ≡ Some x)) [
      | true ↦ λ here. (n, refl)
      | false ↦ λ here. some_found p name names (later here) passes
    ] refl
  where
    later : p n ≡ false → list_any (bytes_eq name) names ≡ true
    later not_here =
        elim (bytes_eq name n) as (λ b. bytes_eq name n ≡ b → (b || list_any (bytes_eq name) names) ≡ true → list_any (bytes_eq name) names ≡ true) [
          | true ↦ λ same e. let here : p name ≡ p n = ap p (same_bytes name n same) in absurd (cc)
          | false ↦ λ same e. e
        ] refl among

-- a search finds nothing where nothing passes
pub none_found : {X : Type 0} (p : X → Bool) (xs : List X) → ((x : X) → p x ≡ false) → find p xs ≡ None
none_found p [] none = refl
none_found p (x ∷ xs) none = rw (none x) (none_found p xs none)

-- a user that shows a digest has it
pub digest_shown : (digest : List ℕ) (user : Option UserRow) → shows_digest digest user ≡ true → (u : UserRow) × (user ≡ Some u) × (u.digest ≡ digest)
digest_shown digest None e = absurd (cc)
digest_shown digest (Some u) e = (u, refl, same_bytes u.digest digest e)

-- the user that is found shows the digest
pub showing_is : (h : History) (digest : List ℕ) (u : UserRow) → user_showing h digest ≡ Some u → (user_of h u.name ≡ Some u) × (u.digest ≡ digest)
showing_is h digest u e = shown (find (λ name. shows_digest digest (user_of h name)) (names_of h)) refl e
  where
    shown : (found : Option (List ℕ)) → find (λ name. shows_digest digest (user_of h name)) (names_of h) ≡ found → option_and_then (user_of h) found ≡ Some u
        → (user_of h u.name ≡ Some u) × (u.digest ≡ digest)
    shown None was at = absurd (cc)
    shown (Some name) was at =
        let v = digest_shown digest (user_of h name) (found_passes (λ n. shows_digest digest (user_of h n)) (names_of h) name was) in
        let same : v.0 ≡ u = cc in
        (ap (user_of h) (user_named h name u at) ∙ at, sym (ap (λ r. r.digest) same) ∙ v.2)

-- the one user that shows a digest is found by it
pub showing_one : (h : History) → AreApart h → (digest : List ℕ) (u : UserRow) → user_of h u.name ≡ Some u → u.digest ≡ digest → user_showing h digest ≡ Some u
showing_one h apart digest u is shows =
    let passes : shows_digest digest (user_of h u.name) ≡ true = rw is (bytes_same u.digest digest shows) in
    let found = some_found (λ name. shows_digest digest (user_of h name)) u.name (names_of h) (named_among h u.name u is) passes in
    let v = digest_shown digest (user_of h found.0) (found_passes (λ n. shows_digest digest (user_of h n)) (names_of h) found.0 found.1) in
    let same : found.0 ≡ u.name = apart found.0 u.name v.0 u v.1 is (v.2 ∙ sym shows) in
    ap (option_and_then (user_of h)) found.1 ∙ ap (user_of h) same ∙ is

-- where no user has a digest, none is found by it
pub showing_none : (h : History) (digest : List ℕ) → ((name : List ℕ) (u : UserRow) → user_of h name ≡ Some u → u.digest ≢ digest) → user_showing h digest ≡ None
showing_none h digest none = ap (option_and_then (user_of h)) (none_found (λ name. shows_digest digest (user_of h name)) (names_of h) (λ name. hidden name (user_of h name) refl))
  where
    hidden : (name : List ℕ) (user : Option UserRow) → user_of h name ≡ user → shows_digest digest user ≡ false
    hidden name None is = refl
    hidden name (Some u) is =
        elim (bytes_eq u.digest digest) as (λ b. bytes_eq u.digest digest ≡ b → b ≡ false) [
          | true ↦ λ same. absurd (none name u is (same_bytes u.digest digest same))
          | false ↦ λ same. refl
        ] refl
