-- What is written of texts one after the other.
use Rattle.std.proofs.Common.{◌≡◌, ◌∙◌, ℕ, suc, ◌+◌, List, [], ◌∷◌, ◌++◌, Option, Result, Ok, Err, length, take, refl, sym, ap, subst, arith, append-nil, append_assoc, length-append}
use Rattle.std.proofs.KnownBytes.{Appends-nil, Appends-trans}
use Rattle.std.proofs.lemmas.List.{take-append-le}
use Rattle.std.specs.Io.KnownBytes.{Appends}
use Rattle.std.specs.Prelude.{OnErr, OnOk}
use Rattle.streams.specs.Counts.{one_more}
use Rattle.streams.specs.Steps.{AppendsPart}
use Rattle.streams.specs.declared.counted.Counted.{Counted}
use Rattle.streams.specs.declared.whole.WriteFailed.{WriteFailed}
use Rattle.desk_http.specs.Lines.{line_of, lines_of, IsCut, IsPut, IsWhole}
use Rattle.desk_http.specs.declared.fault.HttpFault.{HttpFault}
use Rattle.desk_http.specs.declared.served.Served.{Served}

-- the first items of two lists, where these are all of the first list and some of the second
take_both : (xs ys : List ℕ) (n : ℕ) → take (length xs + n) (xs ++ ys) ≡ xs ++ take n ys
take_both [] ys n = let none : 0 + n ≡ n = omega arith in ap (λ (k : ℕ). take k ys) none
take_both (x ∷ xs) ys n =
    let more : suc (length xs) + n ≡ suc (length xs + n) = omega arith in
    ap (λ (k : ℕ). take k (x ∷ xs ++ ys)) more ∙ ap (λ l. x ∷ l) (take_both xs ys n)

-- a text whole, and a part of the next
part_after : (a b c : Option (List ℕ)) (xs ys : List ℕ) → Appends a b xs → AppendsPart b c ys → AppendsPart a c (xs ++ ys)
part_after a b c xs ys whole (n, short, part) = (
  length xs + n,
  omega (arith, length-append xs ys, short),
  subst (λ (l : List ℕ). Appends a c l) (sym (take_both xs ys n)) (Appends-trans a b c xs (take n ys) whole part),
)

-- a part of a text is one of what the text begins
part_of_more : (a b : Option (List ℕ)) (xs ys : List ℕ) → AppendsPart a b xs → AppendsPart a b (xs ++ ys)
part_of_more a b xs ys (n, short, part) = (
  n,
  omega (arith, length-append xs ys, short),
  subst (λ (l : List ℕ). Appends a b l) (sym (take-append-le n xs ys (omega (arith, short)))) part,
)

module _ {O : Type 0} (contents : O → Option (List ℕ)) where
  pub put_none : (o : Counted O) → IsWhole contents o o []
  put_none o = (Appends-nil (contents o.inner), refl)

  -- by what is said of each outcome
  pub put_so : (old new : Counted O) (text : List ℕ) (result : Result (Unit {0}) WriteFailed)
      → OnOk result (Appends (contents old.inner) (contents new.inner) text) → OnErr result (AppendsPart (contents old.inner) (contents new.inner) text)
      → OnOk result (new.faults ≡ old.faults) → OnErr result (new.faults ≡ one_more old.faults) → IsPut contents old new text result
  put_so old new text (Ok done) whole part no_fault fault = (whole, no_fault)
  put_so old new text (Err failed) whole part no_fault fault = (part, fault)

  pub whole_then : (old mid new : Counted O) (xs ys : List ℕ) → IsWhole contents old mid xs → IsWhole contents mid new ys → IsWhole contents old new (xs ++ ys)
  whole_then old mid new xs ys first next =
      (Appends-trans (contents old.inner) (contents mid.inner) (contents new.inner) xs ys first.0 next.0, next.1 ∙ first.1)

  pub put_then : (old mid new : Counted O) (xs ys : List ℕ) (result : Result (Unit {0}) WriteFailed)
      → IsWhole contents old mid xs → IsPut contents mid new ys result → IsPut contents old new (xs ++ ys) result
  put_then old mid new xs ys (Ok done) first next = whole_then old mid new xs ys first next
  put_then old mid new xs ys (Err failed) first next = (
    part_after (contents old.inner) (contents mid.inner) (contents new.inner) xs ys first.0 next.0,
    next.1 ∙ ap (λ n. one_more n) first.1,
  )

  pub cut_of_more : (old new : Counted O) (xs ys : List ℕ) → IsCut contents old new xs → IsCut contents old new (xs ++ ys)
  cut_of_more old new xs ys cut = (part_of_more (contents old.inner) (contents new.inner) xs ys cut.0, cut.1)

-- the lines of one exchange more
pub lines_more : (results : List (Result Served HttpFault)) (r : Result Served HttpFault) → lines_of (results ++ r ∷ []) ≡ lines_of results ++ line_of r
lines_more [] r = append-nil (line_of r)
lines_more (x ∷ results) r = ap (λ t. line_of x ++ t) (lines_more results r) ∙ sym (append_assoc (line_of x) (lines_of results) (line_of r))
