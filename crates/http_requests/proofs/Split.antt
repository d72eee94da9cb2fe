-- The parts of a path.
use Rattle.std.proofs.Common.{◌≡◌, ◌≢◌, ℕ, zero, suc, ◌<◌, ◌++◌, ◌==◌, Bool, true, false, cond, List, [], ◌∷◌, length, get_or, take, drop, refl, ap, arith, ne_eqb, eq-eqb}
use Rattle.std.proofs.lemmas.Bool.Decides.{nat_tests}
use Rattle.matchit.specs.Seek.{has_slash}
use Rattle.http_requests.specs.Parts.{onto_first, parts}

-- a slash at i, and none before
pub at_slash : (path : List ℕ) (i : ℕ) → i < length path → get_or path i 0 ≡ 47 → ((k : ℕ) → k < i → get_or path k 0 ≡ 47 → ⊥)
    → parts path ≡ take i path ∷ parts (drop (suc i) path)
at_slash [] i lt at before = absurd (omega arith)
at_slash (b ∷ path) zero lt at before = rw (eq-eqb b 47 at) refl
at_slash (b ∷ path) (suc i) lt at before =
    let other : b ≢ 47 = before 0 (omega arith) in
    rw (ne_eqb b 47 other, at_slash path i (omega arith) at (λ k small. before (suc k) (omega arith))) refl

-- no slash
pub no_slash : (path : List ℕ) → ((k : ℕ) → k < length path → get_or path k 0 ≡ 47 → ⊥) → parts path ≡ path ∷ []
no_slash [] none = refl
no_slash (b ∷ path) none =
    let other : b ≢ 47 = none 0 (omega arith) in
    rw (ne_eqb b 47 other, no_slash path (λ k small. none (suc k) (omega arith))) refl

-- no part after the only one, and none but the empty one in an empty path
pub none_left : (k : ℕ) → get_or {A = List ℕ} [] k [] ≡ get_or ([] ∷ []) k []
none_left zero = refl
none_left (suc k) = refl

abbrev pub AreBytes : List ℕ → Type 0
AreBytes [] = Unit {0}
AreBytes (b ∷ rest) = (b < 256) × AreBytes rest

-- each is bytes with no slash
abbrev pub AreParts : List (List ℕ) → Type 0
AreParts [] = Unit {0}
AreParts (w ∷ ws) = AreBytes w × (has_slash w ≡ false) × AreParts ws

-- each behind a slash
abbrev pub path_of : List (List ℕ) → List ℕ
path_of [] = []
path_of (w ∷ ws) = 47 ∷ w ++ path_of ws

first_joined : (b : ℕ) (ws : List (List ℕ)) (rest : List ℕ) → path_of ws ≡ 47 ∷ rest → path_of (onto_first b ws) ≡ 47 ∷ b ∷ rest
first_joined b [] rest e = cc e
first_joined b (w ∷ ws) rest e = cc e

-- what joins the parts of a path
pub parts_path : (p : List ℕ) → path_of (parts p) ≡ 47 ∷ p
parts_path [] = refl
parts_path (b ∷ rest) = go (b == 47) refl (parts_path rest)
  where
    go : (v : Bool) → (b == 47) ≡ v → path_of (parts rest) ≡ 47 ∷ rest → path_of (cond v ([] ∷ parts rest) (onto_first b (parts rest))) ≡ 47 ∷ b ∷ rest
    go true e ih =
        let is : b ≡ 47 = grind (arith, nat_tests) in
        rw is (ap (λ q. 47 ∷ q) ih)
    go false e ih = first_joined b (parts rest) rest ih

more_parts : (b : ℕ) → b < 256 → (b == 47) ≡ false → (ws : List (List ℕ)) → AreParts ws → AreParts (onto_first b ws)
more_parts b small off [] are = ((small, tt), rw off refl, tt)
more_parts b small off (w ∷ ws) are = ((small, are.0), rw off are.1, are.2)

pub parts_are : (p : List ℕ) → AreBytes p → AreParts (parts p)
parts_are [] h = (tt, refl, tt)
parts_are (b ∷ rest) h = go (b == 47) refl (parts_are rest h.1)
  where
    go : (v : Bool) → (b == 47) ≡ v → AreParts (parts rest) → AreParts (cond v ([] ∷ parts rest) (onto_first b (parts rest)))
    go true e ih = (tt, refl, ih)
    go false e ih = more_parts b h.0 e (parts rest) ih
