-- What is read of a log as a stream.
use Rattle.std.proofs.Common.{inl, inr, ◌≡◌, ◌∙◌, ℕ, List, ◌∷◌, ◌++◌, Bool, true, false, Option, Some, None, IfSome, Result, Ok, Err, refl, sym, ap, subst}
use Rattle.std.specs.Prelude.{IsErrAnd}
use Rattle.streams.proofs.LineFacts.{first_line-no_feed}
use Rattle.streams.specs.Lines.{NoFeed, after_line, first_line}
use Rattle.sealed_log.specs.Input.{HasNoBody, ReadsBody, ReadsText, Unseals}
use Rattle.sealed_log.specs.Sealed.{IsBody, seal_on, sealed_line}
use Rattle.sealed_log.specs.Told.{IsSeal, body_in, is_sealed}
use Rattle.sealed_log.specs.declared.unreadable.Unreadable.{Unreadable}
use Rattle.sealed_log.specs.declared.unreadable.Unreadable.TheVariants.{NoMemory, Unsealed}
use Rattle.sealed_log.proofs.ToldFacts.{IsBody-body_in, whole_line}
use Rattle.no_memory.specs.Witness.{witness}

-- a `?` that leaves with this fault
pub left_with : (old new : Option (List ℕ)) (prior seal body : List ℕ) (result : Result Bool Unreadable) (fault : Unreadable) → IsErrAnd result (λ e. e ≡ fault)
    → IfSome old (λ bytes. HasNoBody fault prior bytes) → ReadsBody old new prior seal body result
left_with old new prior seal body (Ok more) fault is none = absurd is
left_with old new prior seal body (Err e) fault is none = subst (λ (f : Unreadable). IfSome old (λ bytes. HasNoBody f prior bytes)) (sym is) none

pub no_text : (old new : Option (List ℕ)) (text prior : List ℕ) (fault : Unreadable) → ReadsText old new text (Err fault) → IfSome old (λ bytes. HasNoBody fault prior bytes)
no_text None new text prior fault read = tt
no_text (Some bytes) new text prior fault read = read prior

no_memory : (old : Option (List ℕ)) (prior : List ℕ) → IfSome old (λ bytes. HasNoBody (NoMemory witness) prior bytes)
no_memory None prior = tt
no_memory (Some bytes) prior = tt

pub none_more : (old new : Option (List ℕ)) (text prior body : List ℕ) (more : Bool) → ReadsText old new text (Ok more) → more ≡ false
    → ReadsBody old new prior prior body (Ok false)
none_more old new text prior body true read is = absurd (let c : true ≡ false = is in cc)
none_more old new text prior body false read is = (read, refl)

body_read : (old new : Option (List ℕ)) (text given prior seal body : List ℕ) (more : Bool) → ReadsText old new text (Ok more) → more ≡ true → given ≡ text
    → IsSeal prior given seal → body ≡ body_in given → ReadsBody old new prior seal body (Ok true)
body_read old new text given prior seal body false read is same sealed made = absurd (let c : false ≡ true = is in cc)
body_read None new text given prior seal body true read is same sealed made = tt
body_read (Some bytes) new text given prior seal body true read is same sealed made =
    let has = read.0 in
    let line : given ≡ first_line bytes = same ∙ read.1 in
    let one : NoFeed given = subst NoFeed (sym line) (first_line-no_feed bytes) in
    let body_is : body_in given ≡ body = sym made in
    record {
      rest = after_line bytes;
      is = has ∙ ap (λ (l : List ℕ). l ++ 10 ∷ after_line bytes) (sym line)
          ∙ whole_line prior given (after_line bytes) 10 refl sealed.holds
          ∙ ap (λ (b : List ℕ). sealed_line prior b ++ after_line bytes) body_is;
      is_body = subst IsBody body_is (IsBody-body_in prior given one sealed.holds);
      sealed = sealed.is ∙ ap (seal_on prior) body_is;
      left = read.3;
    }

not_sealed : (old new : Option (List ℕ)) (text prior : List ℕ) (more : Bool) → ReadsText old new text (Ok more) → more ≡ true
    → is_sealed prior text ≡ false → IfSome old (λ bytes. HasNoBody Unsealed prior bytes)
not_sealed old new text prior false read is other = absurd (let c : false ≡ true = is in cc)
not_sealed None new text prior true read is other = tt
not_sealed (Some bytes) new text prior true read is other = record {
  line = text;
  rest = after_line bytes;
  is = read.0 ∙ ap (λ (l : List ℕ). l ++ 10 ∷ after_line bytes) (sym read.1);
  one = subst NoFeed (sym read.1) (first_line-no_feed bytes);
  short = read.2;
  other = other;
}

-- the line that was read is sealed
pub unsealed_body : (old new : Option (List ℕ)) (text prior seal body : List ℕ) (more : Bool) → ReadsText old new text (Ok more) → more ≡ true
    → Unseals prior seal text body (Ok tt) → ReadsBody old new prior seal body (Ok true)
unsealed_body old new text prior seal body more read is unseals = body_read old new text text prior seal body more read is refl unseals.0 unseals.1

-- or it isn't
pub no_seal_on : (old new : Option (List ℕ)) (text prior seal body : List ℕ) (more : Bool) (fault : Unreadable) → ReadsText old new text (Ok more) → more ≡ true
    → Unseals prior seal text body (Err fault) → IfSome old (λ bytes. HasNoBody fault prior bytes)
no_seal_on old new text prior seal body more fault read is (inl memory) =
    subst (λ (f : Unreadable). IfSome old (λ bytes. HasNoBody f prior bytes)) (sym memory) (no_memory old prior)
no_seal_on old new text prior seal body more fault read is (inr other) =
    subst (λ (f : Unreadable). IfSome old (λ bytes. HasNoBody f prior bytes)) (sym other.0) (not_sealed old new text prior more read is other.1)
