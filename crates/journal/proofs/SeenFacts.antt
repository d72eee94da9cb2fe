-- The seal of the first so many lines, as they are taken.
use Rattle.std.proofs.Common.{inl, inr, ◌≡◌, ◌∙◌, ◌≤◌, ◌<◌, ◌+◌, ℕ, List, [], ◌∷◌, ◌++◌, Bool, true, false, Option, Some, None, IfSome, Ok, length, take, sym, ap, subst, arith, append_assoc, append-nil, length-append}
use Rattle.std.proofs.lemmas.Bool.{cases_eq}
use Rattle.std.proofs.lemmas.List.{take-append-le, take_all}
use Rattle.std.proofs.lemmas.List.Elements.{All-push}
use Rattle.sealed_log.specs.Input.{IsBodyOf, ReadsBody}
use Rattle.sealed_log.specs.Sealed.{IsBody, no_seal, seal_of, seal_on, sealed_line, sealed_text}
use Rattle.sealed_log.specs.Told.{told}
use Rattle.sealed_log.proofs.SealFacts.{last_seal-push, sealed_lines-push}
use Rattle.sealed_log.proofs.ToldFacts.{told_text}
use Rattle.office_policy.specs.History.{Event}
use Rattle.journal.specs.declared.seal_at.SealAt.{SealAt}
use Rattle.journal.specs.SealsAt.{Finds, IsFound, IsSealAsked, IsSealAt, IsSeen, Sees}
use Rattle.journal.specs.Told.{Ends, Place}

-- the seal that is kept of one line more
kept_more : (bodies : List (List ℕ)) (body : List ℕ) (old new : SealAt) (taken : ℕ) (seal : List ℕ) → taken ≡ length bodies + 1 → seal ≡ seal_of (bodies ++ body ∷ [])
    → (old.line ≤ length bodies → old.seal ≡ seal_of (take old.line bodies)) → Sees old new taken seal → new.line ≤ length (bodies ++ body ∷ [])
    → new.seal ≡ seal_of (take new.line (bodies ++ body ∷ []))
kept_more bodies body old new taken seal counted sealed kept sees few = elim (cases_eq new.line taken) [
  | inl same ↦ sees.there (sym (sym sees.line ∙ same)) ∙ sealed ∙ ap (λ (l : List (List ℕ)). seal_of l) (sym (take_all new.line (bodies ++ body ∷ []) (let size = length-append bodies (body ∷ []) in omega (arith, size, same, counted))))
  | inr other ↦
      let size = length-append bodies (body ∷ []) in
      let before : new.line ≤ length bodies = omega (arith, size, few, other, counted) in
      sees.elsewhere (λ is. other (sees.line ∙ sym is)) ∙ kept (subst (λ (n : ℕ). n ≤ length bodies) sees.line before)
      ∙ ap (λ (n : ℕ). seal_of (take n bodies)) (sym sees.line) ∙ ap (λ (l : List (List ℕ)). seal_of l) (sym (take-append-le new.line bodies (body ∷ []) before))
]

-- a line is taken
pub seen_more : (bytes : Option (List ℕ)) (before : ℕ) (held kept : Option Event) (old new : Option (List ℕ)) (prior seal text : List ℕ) (more : Bool) (was at : SealAt)
    → ReadsBody old new prior seal text (Ok more) → more ≡ true → Sees was at (before + 1) seal → IsSeen bytes (record { taken = before; held = held; seal = prior; left = old }) was
    → IsSeen bytes (record { taken = before + 1; held = kept; seal = seal; left = new }) at
seen_more None before held kept old new prior seal text more was at read is sees seen = tt
seen_more (Some bytes) before held kept old new prior seal text false was at read is sees seen = absurd (let c : false ≡ true = is in cc)
seen_more (Some bytes) before held kept old new prior seal text true was at read is sees seen =
    let one : IsBodyOf prior seal text seen.rest new = subst (λ (l : Option (List ℕ)). ReadsBody l new prior seal text (Ok true)) seen.left read in
    let line : sealed_line prior text ≡ sealed_line (seal_of seen.bodies) text = ap (λ (s : List ℕ). sealed_line s text) seen.sealed in
    let sealed = one.sealed ∙ ap (λ (s : List ℕ). seal_on s text) seen.sealed ∙ sym (last_seal-push no_seal seen.bodies text) in
    let counted = ap (λ (n : ℕ). n + 1) seen.counted in
    record {
      bodies = seen.bodies ++ text ∷ [];
      are = All-push IsBody seen.bodies text seen.are one.is_body;
      rest = one.rest;
      is = seen.is ∙ ap (λ (l : List ℕ). sealed_text seen.bodies ++ l) (one.is ∙ ap (λ (l : List ℕ). l ++ one.rest) line)
          ∙ sym (append_assoc (sealed_text seen.bodies) (sealed_line (seal_of seen.bodies) text) one.rest)
          ∙ ap (λ (l : List ℕ). l ++ one.rest) (sym (sealed_lines-push no_seal seen.bodies text));
      left = one.left;
      counted = counted ∙ sym (length-append seen.bodies (text ∷ []));
      sealed = sealed;
      at = kept_more seen.bodies text was at (before + 1) seal counted sealed seen.at sees;
    }

-- no line is left
pub seen_end : (bytes : Option (List ℕ)) (before : ℕ) (held kept : Option Event) (old new : Option (List ℕ)) (prior seal text : List ℕ) (more : Bool) (at : SealAt)
    → ReadsBody old new prior seal text (Ok more) → more ≡ false → IsSeen bytes (record { taken = before; held = held; seal = prior; left = old }) at
    → IsSeen bytes (record { taken = before; held = kept; seal = seal; left = new }) at
seen_end None before held kept old new prior seal text more at read is seen = tt
seen_end (Some bytes) before held kept old new prior seal text true at read is seen = absurd (let c : true ≡ false = is in cc)
seen_end (Some bytes) before held kept old new prior seal text false at read is seen =
    let none = subst (λ (l : Option (List ℕ)). ReadsBody l new prior seal text (Ok false)) seen.left read in
    record {
      bodies = seen.bodies;
      are = seen.are;
      rest = seen.rest;
      is = seen.is;
      left = none.0.1 ∙ ap (λ (l : List ℕ). Some l) (sym none.0.0);
      counted = seen.counted;
      sealed = none.1 ∙ seen.sealed;
      at = seen.at;
    }

-- at the end these are all lines that the bytes tell
pub seen_whole : (bytes : Option (List ℕ)) (p : Place) (at : SealAt) (line : ℕ) (found : Option (List ℕ)) → at.line ≡ line → IfSome bytes (λ _. p.left ≡ Some []) → IsSeen bytes p at
    → Finds at p.taken found → IfSome bytes (λ text. IsSealAt line (told text) found)
seen_whole None p at line found is end seen finds = tt
seen_whole (Some text) p at line found is end seen finds =
    let none : seen.rest ≡ [] = let both : ◌≡◌ {A = Option (List ℕ)} (Some seen.rest) (Some []) = sym seen.left ∙ end in cc in
    let whole : text ≡ sealed_text seen.bodies = seen.is ∙ ap (λ (l : List ℕ). sealed_text seen.bodies ++ l) none ∙ append-nil (sealed_text seen.bodies) in
    let all : told text ≡ seen.bodies = ap told whole ∙ told_text seen.bodies seen.are in
    subst (λ (bodies : List (List ℕ)). IsSealAt line bodies found) (sym all) (subst (λ (n : ℕ). IsSealAt n seen.bodies found) is (there found finds))
  where
    there : (found : Option (List ℕ)) → Finds at p.taken found → IsSealAt at.line seen.bodies found
    there (Some seal) finds =
        let few : at.line ≤ length seen.bodies = subst (λ (n : ℕ). at.line ≤ n) seen.counted finds.0 in
        (few, finds.1 ∙ seen.at few)
    there None finds = subst (λ (n : ℕ). n < at.line) seen.counted finds

-- and the seal is that of the line that is asked for, where one is
pub seen_asked : (bytes : Option (List ℕ)) (p : Place) (at : SealAt) (line : ℕ) (asked : Option ℕ) (found : Option (List ℕ)) → at.line ≡ line → IfSome asked (λ n. line ≡ n)
    → IfSome bytes (λ _. p.left ≡ Some []) → IsSeen bytes p at → IsFound asked at p.taken found → IfSome bytes (λ text. IsSealAsked asked (told text) found)
seen_asked None p at line asked found is same end seen finds = tt
seen_asked (Some text) p at line None found is same end seen finds = finds
seen_asked (Some text) p at line (Some n) found is same end seen finds = seen_whole (Some text) p at n found (is ∙ same) end seen finds

-- where no event was left none of the bytes is
pub seen_to_end : (bytes : Option (List ℕ)) (here end : Place) (at : SealAt) → IsSeen bytes here at → Ends here end → IfSome bytes (λ _. end.left ≡ Some [])
seen_to_end None here end at seen ends = tt
seen_to_end (Some text) here end at seen ends = subst (λ (l : Option (List ℕ)). IfSome l (λ _. end.left ≡ Some [])) seen.left ends.left
