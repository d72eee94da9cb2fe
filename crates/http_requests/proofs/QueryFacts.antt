-- The path and the query of a target, as `split_once` cuts it.
use Rattle.std.proofs.Common.{◌≡◌, ℕ, List, Option, Some, None, Bor, length, refl, sym, ap, lt-ltb, le-ltb, arith}
use Rattle.std.proofs.lemmas.List.{take_all}
use Rattle.std.proofs.lemmas.Str.Pattern.{IsSplitOnceResult, split_once_first}
use Rattle.http_requests.specs.Queries.{path_of, query_of}

abbrev Cut : Type 0
Cut = Bor (List ℕ) × Bor (List ℕ)

pub no_query : (target : List ℕ) (r : Option Cut) → IsSplitOnceResult 63 target r → r ≡ None → (path_of target ≡ target) × (query_of target ≡ None)
no_query target None h is =
    let none = split_once_first 63 target None h (omega arith) in
    (rw none (take_all _ target (omega arith)), rw (none, le-ltb (length target) (length target) (omega arith)) refl)
no_query target (Some cut) h is = cc is

pub with_query : (target : List ℕ) (r : Option Cut) (cut : Cut) → IsSplitOnceResult 63 target r → r ≡ Some cut
    → (path_of target ≡ cut.0.now) × (query_of target ≡ Some cut.1.now)
with_query target None cut h is = cc is
with_query target (Some other) cut h is =
    let some = split_once_first 63 target (Some other) h (omega arith) in
    let same : other ≡ cut = cc is in
    (rw (sym same) (sym some.1), rw (sym same, lt-ltb _ _ some.0) (ap (λ q. Some q) (sym some.2)))
