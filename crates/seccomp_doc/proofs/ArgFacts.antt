-- Indexes of comparisons.
use Rattle.std.proofs.Common.{◌≡◌, ◌∙◌, ap, refl, sym, ℕ, suc, ◌+◌, ◌-◌, ◌<◌, List, [], ◌∷◌, true, false, ◌||◌, ◌==◌, map, take, drop, length, get_or, add-one}
use Rattle.std.proofs.Math.Seq.{drop-cons}
use Rattle.std.proofs.lemmas.List.{take_rest}
use Rattle.std.specs.List.{list_any}
use Rattle.seccomp_doc.specs.declared.parts.ArgParts.{ArgParts}
use Rattle.seccomp_doc.specs.Lawful.{has_repeat}

abbrev pub index_of : ArgParts → ℕ
index_of a = a.index

list_any-index : (n : ℕ) (args : List ArgParts) → list_any (λ m. n == m) (map index_of args) ≡ list_any (λ a. n == a.index) args
list_any-index n [] = refl
list_any-index n (a ∷ args) = ap (λ b. (n == a.index) || b) (list_any-index n args)

-- the first of those that are left is compared with the others
pub has_repeat-first : (args : List ArgParts) (i : ℕ) (d : ArgParts) → i < length args →
    has_repeat (map index_of (drop i args)) ≡ (list_any (λ a. index_of (get_or args i d) == a.index) (drop (i + 1) args) || has_repeat (map index_of (drop (i + 1) args)))
has_repeat-first args i d h =
    rw (drop-cons args i d h, add-one) (ap (λ b. b || has_repeat (map index_of (drop (suc i) args))) (list_any-index (get_or args i d).index (drop (suc i) args)))

-- the first of those that are left has the index of a later one
pub repeat_here : (args : List ArgParts) (i : ℕ) (d : ArgParts) → i < length args →
    has_repeat (map index_of args) ≡ has_repeat (map index_of (drop i args)) →
    true ≡ list_any (λ a. (get_or args i d).index == a.index) (take (length args - (i + 1)) (drop (i + 1) args)) →
    true ≡ has_repeat (map index_of args)
repeat_here args i d lt kept here =
    let first = has_repeat-first args i d lt in
    let rest : true ≡ list_any (λ a. (get_or args i d).index == a.index) (drop (i + 1) args) = here ∙ ap (list_any (λ a. (get_or args i d).index == a.index)) (take_rest args (i + 1)) in
    sym (kept ∙ first ∙ ap (λ b. b || has_repeat (map index_of (drop (i + 1) args))) (sym rest))

-- it hasn't
pub no_repeat_here : (args : List ArgParts) (i : ℕ) (d : ArgParts) → i < length args →
    has_repeat (map index_of args) ≡ has_repeat (map index_of (drop i args)) →
    false ≡ list_any (λ a. (get_or args i d).index == a.index) (take (length args - (i + 1)) (drop (i + 1) args)) →
    has_repeat (map index_of args) ≡ has_repeat (map index_of (drop (i + 1) args))
no_repeat_here args i d lt kept gone =
    let first = has_repeat-first args i d lt in
    let rest : false ≡ list_any (λ a. (get_or args i d).index == a.index) (drop (i + 1) args) = gone ∙ ap (list_any (λ a. (get_or args i d).index == a.index)) (take_rest args (i + 1)) in
    kept ∙ first ∙ ap (λ b. b || has_repeat (map index_of (drop (i + 1) args))) (sym rest)
