-- The values of a name, one field further on.
use Rattle.std.proofs.Common.{◌≡◌, ◌∙◌, ◌+◌, ◌<◌, ◌++◌, ℕ, Bool, true, false, cond, List, [], ◌∷◌, length, map, filter, take, get_or, refl, sym, ap, append-nil}
use Rattle.std.proofs.lemmas.List.{take_more, map-append}
use Rattle.std.proofs.lemmas.List.Elements.{filter-append}
use Rattle.httparse.specs.Spans.{header_bytes, span_bytes}
use Rattle.httparse.specs.declared.spans.HeaderSpan.{HeaderSpan}
use Rattle.http_requests.specs.Fields.{Pair, is_named, next, values_as, all_values}

values_more : (name : List ℕ) (ps : List Pair) (p : Pair)
    → all_values name (ps ++ p ∷ []) ≡ all_values name ps ++ cond (is_named name p) (p.1 ∷ []) []
values_more name ps p = go (is_named name p) refl
  where
    go : (b : Bool) → is_named name p ≡ b
        → all_values name (ps ++ p ∷ []) ≡ all_values name ps ++ cond b (p.1 ∷ []) []
    go true e = ap (map (λ q. q.1)) (filter-append (is_named name) ps (p ∷ [])
        ∙ ap (λ b. filter (is_named name) ps ++ cond b (p ∷ []) []) e)
        ∙ map-append (λ q. q.1) (filter (is_named name) ps) (p ∷ [])
    go false e = ap (map (λ q. q.1)) (filter-append (is_named name) ps (p ∷ [])
        ∙ ap (λ b. filter (is_named name) ps ++ cond b (p ∷ []) []) e)
        ∙ map-append (λ q. q.1) (filter (is_named name) ps) []

pub values_next : (bytes name : List ℕ) (hs : List HeaderSpan) (i : ℕ) (d : HeaderSpan) → i < length hs
    → all_values name (map (header_bytes bytes) (take (i + 1) hs))
    ≡ all_values name (map (header_bytes bytes) (take i hs))
    ++ cond (is_named name (header_bytes bytes (get_or hs i d))) (span_bytes bytes (get_or hs i d).value ∷ []) []
values_next bytes name hs i d inside =
    ap (λ ys. all_values name (map (header_bytes bytes) ys)) (take_more hs i d inside)
    ∙ ap (all_values name) (map-append (header_bytes bytes) (take i hs) (get_or hs i d ∷ []))
    ∙ values_more name (map (header_bytes bytes) (take i hs)) (header_bytes bytes (get_or hs i d))

push : (xs : List (List ℕ)) (v : List ℕ) → values_as (xs ++ v ∷ []) ≡ next (values_as xs) v
push [] v = refl
push (x ∷ []) v = refl
push (x ∷ y ∷ rest) v = refl

pub has_value : (bytes name : List ℕ) (hs : List HeaderSpan) (i : ℕ) (d : HeaderSpan) → i < length hs
    → is_named name (header_bytes bytes (get_or hs i d)) ≡ true
    → next (values_as (all_values name (map (header_bytes bytes) (take i hs)))) (span_bytes bytes (get_or hs i d).value)
    ≡ values_as (all_values name (map (header_bytes bytes) (take (i + 1) hs)))
has_value bytes name hs i d inside named =
    let step : all_values name (map (header_bytes bytes) (take (i + 1) hs)) ≡ all_values name (map (header_bytes bytes) (take i hs)) ++ span_bytes bytes (get_or hs i d).value ∷ [] =
    values_next bytes name hs i d inside ∙ ap (λ b. all_values name (map (header_bytes bytes) (take i hs)) ++ cond b (span_bytes bytes (get_or hs i d).value ∷ []) []) named in
    sym (ap values_as step ∙ push _ _)

pub has_none : (bytes name : List ℕ) (hs : List HeaderSpan) (i : ℕ) (d : HeaderSpan) → i < length hs
    → is_named name (header_bytes bytes (get_or hs i d)) ≡ false
    → values_as (all_values name (map (header_bytes bytes) (take i hs)))
    ≡ values_as (all_values name (map (header_bytes bytes) (take (i + 1) hs)))
has_none bytes name hs i d inside named =
    let step : all_values name (map (header_bytes bytes) (take (i + 1) hs)) ≡ all_values name (map (header_bytes bytes) (take i hs)) =
    values_next bytes name hs i d inside ∙ ap (λ b. all_values name (map (header_bytes bytes) (take i hs)) ++ cond b (span_bytes bytes (get_or hs i d).value ∷ []) []) named ∙ append-nil _ in
    sym (ap values_as step)
