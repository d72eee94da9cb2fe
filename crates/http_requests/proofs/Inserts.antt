-- The rows of a router as routes go into it.
use Rattle.std.proofs.Common.{◌≡◌, ◌∙◌, ◌+◌, ◌<◌, ◌++◌, ℕ, true, not, suc, is_some, List, [], ◌∷◌, Option, Some, None, Result, Ok, Err, length, map, fold, take, drop, get_or, refl, sym, ap, subst, drop-cons, add-one, inl, inr}
use Rattle.std.specs.Borrow.{Bor}
use Rattle.std.proofs.lemmas.List.{take_more, map-append}
use Rattle.matchit.specs.Route.{Scan, parse_route}
use Rattle.matchit.specs.Router.{InsertsRead, nearest}
use Rattle.matchit.specs.declared.error.InsertError.{InsertError}
use Rattle.matchit.specs.declared.error.InsertError.TheVariants.{Conflict, InvalidParam, InvalidParamSegment, InvalidCatchAll, OutOfMemory}
use Rattle.http_requests.specs.Table.{Routes, fits, fits_read, with_read, with_route}
use Rattle.http_requests.specs.declared.form.Form.{Form}
use Rattle.http_requests.proofs.Walks.{both}

abbrev Item : Type 0
Item = Bor (List ℕ) × Form

abbrev plain : Item → List ℕ × Form
plain e = (e.0.now, e.1)

pub inserted : (r : Result Scan InsertError) (v : Form) (old new : Routes) (u : Unit {0}) → InsertsRead r v old new (Ok u) → new ≡ with_read r v old
inserted (Ok s) v old new u h = h.1
inserted (Err e) v old new u h = elim (h.1) [ inl bad ↦ cc | inr bad ↦ cc ]

none_there : {X : Type 0} (o : Option X) (x : X) → o ≡ Some x → not (is_some o) ≡ true → ⊥
none_there None x e f = cc
none_there (Some y) x e f = cc

pub refused : (r : Result Scan InsertError) (v : Form) (old new : Routes) (e : InsertError) → InsertsRead r v old new (Err e) → fits_read old r ≡ true → e ≡ OutOfMemory
refused (Ok s) v old new (Conflict with) h f = absurd (none_there (nearest s.pattern old) h.1.0 h.1.1 f)
refused (Ok s) v old new OutOfMemory h f = refl
refused (Ok s) v old new InvalidParamSegment h f = absurd h.1
refused (Ok s) v old new InvalidParam h f = absurd h.1
refused (Ok s) v old new InvalidCatchAll h f = absurd h.1
refused (Err x) v old new e h f = cc

fold_last : (a : Routes) (xs : List (List ℕ × Form)) (x : List ℕ × Form) → fold with_route a (xs ++ x ∷ []) ≡ with_route (fold with_route a xs) x
fold_last a [] x = refl
fold_last a (y ∷ xs) x = fold_last (with_route a y) xs x

pub more : (a : Routes) (xs : List Item) (i : ℕ) (d : Item) → i < length xs
    → with_route (fold with_route a (map plain (take i xs))) (plain (get_or xs i d)) ≡ fold with_route a (map plain (take (i + 1) xs))
more a xs i d inside =
    sym (ap (λ ys. fold with_route a (map plain ys)) (take_more xs i d inside)
    ∙ ap (fold with_route a) (map-append plain (take i xs) (get_or xs i d ∷ []))
    ∙ fold_last a (map plain (take i xs)) (plain (get_or xs i d)))

pub fits_here : (rows : Routes) (xs : List Item) (i : ℕ) (d : Item) → i < length xs → fits rows (map plain (drop i xs)) ≡ true
    → (fits_read rows (parse_route (get_or xs i d).0.now) ≡ true) × (fits (with_route rows (plain (get_or xs i d))) (map plain (drop (i + 1) xs)) ≡ true)
unfolding fits
fits_here rows xs i d inside f =
    let open_it : fits rows (map plain (get_or xs i d ∷ drop (suc i) xs)) ≡ true = subst (λ (ys : List Item). fits rows (map plain ys) ≡ true) (drop-cons xs i d inside) f in
    let parts = both (fits_read rows (parse_route (get_or xs i d).0.now)) (fits (with_route rows (plain (get_or xs i d))) (map plain (drop (suc i) xs))) open_it in
    (parts.0, rw add-one parts.1)
