-- What a log has.
use Rattle.std.proofs.Common.{◌≡◌, ℕ, ◌+◌, List, [], ◌∷◌, ◌++◌, All, length, refl, sym, ap, ◌∙◌, arith, length-append, ◌<◌, ◌-◌, ◌^◌, min}
use Rattle.std.proofs.lemmas.List.{append-nil, length-take-le}
use Rattle.std.proofs.lemmas.List.Elements.{All-append, All-cons, All-nil, All-push}
use Rattle.sealed_log.specs.Sealed.{IsBody, last_seal, no_seal, seal_on, sealed_line, sealed_lines, sealed_text, sealed_with, seal_of, wrapped}
use Rattle.sealed_log.specs.Told.{HasTail, told}
use Rattle.sealed_log.specs.Whole.{IsWhole}
use Rattle.sealed_log.specs.Log.{AreLines}
use Rattle.sealed_log.specs.Reading.{IsThrough}
use Rattle.sealed_log.specs.declared.through.Through.{Through}
use Rattle.sealed_log.proofs.SealFacts.{last_seal-append, last_seal-push, length-sealed_line, sealed_lines-append, sealed_lines-push}
use Rattle.sealed_log.proofs.ToldFacts.{told_begins, told_text}

-- a file has a tail behind what it tells
pub told_tail_of : (file : List ℕ) → HasTail (sealed_text (told file)) (length file) file
told_tail_of file =
    let begins = told_begins no_seal file in
    record {
      tail = begins.rest;
      short = omega (arith, ap length begins.is, length-append (sealed_text (told file)) begins.rest);
      is = begins.is;
    }

pub all_told : (file : List ℕ) → All IsBody (told file)
all_told file = (told_begins no_seal file).are

-- what was found is as long as it says
pub length-through : (file : List ℕ) (found : Through) → IsThrough file found → found.at ≡ length (sealed_text (told file))
length-through file found is = sym (ap length is.text ∙ length-take-le found.at file is.within)

-- ---- one body more, and such that go before it

pub text_more : (bodies settling : List (List ℕ)) (body : List ℕ)
    → sealed_text bodies ++ sealed_with (seal_of bodies) settling body ≡ sealed_text (bodies ++ (settling ++ body ∷ []))
text_more bodies settling body =
    sym (sealed_lines-append no_seal bodies (settling ++ body ∷ []) ∙ ap (λ (l : List ℕ). sealed_text bodies ++ l) (sealed_lines-push (seal_of bodies) settling body))

seal_more : (bodies settling : List (List ℕ)) (body : List ℕ) → seal_of (bodies ++ (settling ++ body ∷ [])) ≡ seal_on (last_seal (seal_of bodies) settling) body
seal_more bodies settling body = last_seal-append no_seal bodies (settling ++ body ∷ []) ∙ last_seal-push (seal_of bodies) settling body

length-settling : (settling : List (List ℕ)) (body : List ℕ) → length (settling ++ body ∷ []) ≡ length settling + 1
length-settling settling body = length-append settling (body ∷ [])

-- the line of a body alone
pub one_is : (prior body text last : List ℕ) → IsBody body → last ≡ seal_on prior body → text ≡ wrapped body last ++ 10 ∷ [] → AreLines prior [] body text last 1
one_is prior body text last is_body sealed is = record {
  are = All-nil IsBody;
  is_body = is_body;
  is = is ∙ ap (λ (s : List ℕ). wrapped body s ++ 10 ∷ []) sealed;
  sealed = sealed;
  counted = refl;
}

-- and those of two
pub both_are : (prior first between body text last : List ℕ) → IsBody first → IsBody body → between ≡ seal_on prior first → last ≡ seal_on between body
    → text ≡ (wrapped first between ++ 10 ∷ []) ++ (wrapped body last ++ 10 ∷ []) → AreLines prior (first ∷ []) body text last 2
both_are prior first between body text last is_first is_body sealed_first sealed is =
    let behind : last ≡ seal_on (seal_on prior first) body = sealed ∙ ap (λ (s : List ℕ). seal_on s body) sealed_first in
    record {
      are = All-cons IsBody first [] is_first (All-nil IsBody);
      is_body = is_body;
      is = is ∙ ap (λ (s : List ℕ). (wrapped first s ++ 10 ∷ []) ++ (wrapped body last ++ 10 ∷ [])) sealed_first
          ∙ ap (λ (s : List ℕ). sealed_line prior first ++ (wrapped body s ++ 10 ∷ [])) behind
          ∙ ap (λ (l : List ℕ). l ++ sealed_line (seal_on prior first) body) (sym (append-nil (sealed_line prior first)));
      sealed = behind;
      counted = refl;
    }

-- a line is there
pub has_bytes : (prior : List ℕ) (settling : List (List ℕ)) (body text seal : List ℕ) (lines : ℕ) → AreLines prior settling body text seal lines → 0 < length text
has_bytes prior settling body text seal lines are =
    omega (
      arith,
      ap length are.is,
      length-append (sealed_lines prior settling) (sealed_line (last_seal prior settling) body),
      length-sealed_line (last_seal prior settling) body,
    )

module _ (old new prior : List ℕ) (settling : List (List ℕ)) (body text seal : List ℕ) (end lines more : ℕ) (whole : IsWhole old end prior lines)
    (are : AreLines prior settling body text seal more) (has : new ≡ old ++ text) where
  file_more : new ≡ sealed_text (told old) ++ sealed_with (seal_of (told old)) settling body
  file_more =
      has ∙ ap (λ (l : List ℕ). l ++ text) whole.text ∙ ap (λ (l : List ℕ). sealed_text (told old) ++ l) are.is
      ∙ ap (λ (s : List ℕ). sealed_text (told old) ++ sealed_with s settling body) whole.seal

  -- a file of which nothing stands behind what it tells
  pub told_whole : told new ≡ told old ++ (settling ++ body ∷ [])
  told_whole =
      let all = told old ++ (settling ++ body ∷ []) in
      ap told (file_more ∙ text_more (told old) settling body)
      ∙ told_text all (All-append IsBody (told old) (settling ++ body ∷ []) (all_told old) (All-push IsBody settling body are.are are.is_body))

  -- one that ends here, of which the count may be the greatest
  pub whole_more : (here all : ℕ) → here ≡ min (end + length text) (2 ^ 64 - 1) → all ≡ min (lines + more) (2 ^ 64 - 1) → IsWhole new here seal all
  whole_more here all counted line_counted = record {
    text = file_more ∙ text_more (told old) settling body ∙ ap sealed_text (sym told_whole);
    end =
        let size = ap length has ∙ length-append old text in
        let was = whole.end in
        omega (arith, size, was, counted);
    seal = are.sealed ∙ ap (λ (s : List ℕ). seal_on (last_seal s settling) body) whole.seal ∙ sym (seal_more (told old) settling body) ∙ ap seal_of (sym told_whole);
    counted =
        let size = ap length told_whole ∙ length-append (told old) (settling ++ body ∷ []) in
        let was = whole.counted in
        let number = are.counted in
        omega (arith, size, length-settling settling body, was, number, line_counted);
  }

-- a file that was cut where what it tells ends
pub whole_cut : (old new seal : List ℕ) (end lines : ℕ) (found : Through) → IsThrough old found → new ≡ sealed_text (told old) → end ≡ found.at → seal ≡ found.seal
    → lines ≡ found.lines → IsWhole new end seal lines
whole_cut old new seal end lines found is has here sealed counted =
    let bodies = told old in
    let tells : told new ≡ bodies = ap told has ∙ told_text bodies (all_told old) in
    record {
      text = has ∙ ap sealed_text (sym tells);
      end =
          let size = ap length has in
          let long = length-through old found is in
          let within = found.within in
          let small = found.small in
          omega (arith, size, long, within, small, here);
      seal = sealed ∙ is.seal ∙ ap seal_of (sym tells);
      counted =
          let size = ap length tells in
          let all = is.lines in
          let low = found.counted in
          omega (arith, size, all, counted, low);
    }
