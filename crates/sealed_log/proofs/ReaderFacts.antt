-- What a reader finds.
use Rattle.std.proofs.Common.{◌≡◌, ℕ, ◌+◌, ◌-◌, false, List, [], ◌∷◌, ◌++◌, length, take, drop, sym, ap, subst, refl, ◌∙◌, arith, append_assoc, length-append, length-drop}
use Rattle.std.proofs.lemmas.List.{append-nil, length-take-le, take_at}
use Rattle.std.proofs.Math.Seq.{take-add}
use Rattle.sealed_log.specs.Sealed.{IsBody, seal_on, sealed_line, sealed_lines, last_seal}
use Rattle.sealed_log.specs.Told.{IsSeal, IsUnended, told, body_in, is_sealed, told_behind}
use Rattle.sealed_log.specs.Lines.{IsLine}
use Rattle.sealed_log.specs.Reading.{IsStep, IsSoFar, IsThrough, told_at}
use Rattle.sealed_log.specs.declared.through.Through.{Through}
use Rattle.sealed_log.specs.declared.reader.Reader.{Reader}
use Rattle.sealed_log.proofs.LineFacts.{line_text, line_told}
use Rattle.sealed_log.proofs.SealFacts.{length-sealed_line}
use Rattle.sealed_log.proofs.ToldFacts.{IsBody-body_in, told_nowhere, told_other}

-- the keeper has what is kept of the bodies that were read, so many
pub record KeepsSoFar {K : Type 0} (is_of : List (List ℕ) → K → Type 0) (bytes : List ℕ) (reader : Reader) (lines : ℕ) (keeper : K) : Type 0 where
  pub seen : List (List ℕ)
  pub told : told bytes ≡ seen ++ told_at reader bytes
  pub counted : length seen ≡ lines
  pub of : is_of seen keeper

pub stepped : (bytes line body : List ℕ) (old new : Reader) → IsLine bytes old.at line → IsSeal old.seal line new.seal
    → new.at ≡ old.at + length line + 1 → body ≡ body_in line → IsStep bytes old new body
stepped bytes line body old new found sealed at is =
    let body_is : body_in line ≡ body = sym is in
    let next : drop (old.at + length line + 1) bytes ≡ drop new.at bytes = ap (λ n. drop n bytes) (sym at) in
    record {
      is_body = subst IsBody body_is (IsBody-body_in old.seal line found.one sealed.holds);
      told = line_told bytes line old.seal new.seal old.at found sealed
          ∙ ap (λ (b : List ℕ). b ∷ told_behind new.seal (drop (old.at + length line + 1) bytes)) body_is
          ∙ ap (λ (l : List ℕ). body ∷ told_behind new.seal l) next;
      text = line_text bytes line old.seal new.seal old.at found sealed
          ∙ ap (λ (b : List ℕ). sealed_line old.seal b ++ drop (old.at + length line + 1) bytes) body_is
          ∙ ap (λ (l : List ℕ). sealed_line old.seal body ++ l) next;
      seal = sealed.is ∙ ap (seal_on old.seal) body_is;
      at =
          let size : length body ≡ length line - 83 = ap length is ∙ length-take-le (length line - 83) (drop 8 line) (omega (arith, sealed.long, length-drop 8 line)) in
          omega (arith, at, size, sealed.long, length-sealed_line old.seal body);
    }

pub stopped : (bytes line : List ℕ) (reader : Reader) → IsLine bytes reader.at line → is_sealed reader.seal line ≡ false → told_at reader bytes ≡ []
stopped bytes line reader found is =
    ap (told_behind reader.seal) found.is ∙ told_other reader.seal line (drop (reader.at + length line + 1) bytes) found.one is

pub ended : (bytes : List ℕ) (reader : Reader) → IsUnended (drop reader.at bytes) → told_at reader bytes ≡ []
ended bytes reader is = told_nowhere reader.seal (drop reader.at bytes) is

pub gone_on : (bytes body : List ℕ) (lines : ℕ) (old new : Reader) → IsSoFar bytes old lines → IsStep bytes old new body → IsSoFar bytes new (lines + 1)
gone_on bytes body lines old new so_far step =
    let line = sealed_line old.seal body in
    let more = told_at new bytes in
    let front : take new.at bytes ≡ take old.at bytes ++ line =
    ap (λ n. take n bytes) step.at ∙ take-add old.at (length line) bytes
    ∙ ap (λ (l : List ℕ). take old.at bytes ++ l) (ap (take (length line)) step.text ∙ take_at line (drop new.at bytes) (length line) refl) in
    record {
      text = so_far.text
          ∙ ap (λ (l : List (List ℕ)). take old.at bytes ++ sealed_lines old.seal l) step.told
          ∙ sym (append_assoc (take old.at bytes) line (sealed_lines (seal_on old.seal body) more))
          ∙ ap (λ (l : List ℕ). l ++ sealed_lines (seal_on old.seal body) more) (sym front)
          ∙ ap (λ (s : List ℕ). take new.at bytes ++ sealed_lines s more) (sym step.seal);
      seal = so_far.seal
          ∙ ap (λ (l : List (List ℕ)). last_seal old.seal l) step.told
          ∙ ap (λ (s : List ℕ). last_seal s more) (sym step.seal);
      counted = let so = so_far.counted in let told = ap length step.told in omega (arith, so, told);
    }

pub kept_on : {K : Type 0} (is_of : List (List ℕ) → K → Type 0) (bytes body : List ℕ) (lines : ℕ) (old new : Reader) (was keeper : K) → KeepsSoFar is_of bytes old lines was
    → IsStep bytes old new body → ((bodies : List (List ℕ)) → length bodies ≡ lines → IsBody body → is_of bodies was → is_of (bodies ++ body ∷ []) keeper)
    → KeepsSoFar is_of bytes new (lines + 1) keeper
kept_on is_of bytes body lines old new was keeper so_far step sees = record {
  seen = so_far.seen ++ body ∷ [];
  told = so_far.told ∙ ap (λ (l : List (List ℕ)). so_far.seen ++ l) step.told ∙ sym (append_assoc so_far.seen (body ∷ []) (told_at new bytes));
  counted = let so = so_far.counted in omega (arith, so, length-append so_far.seen (body ∷ []));
  of = sees so_far.seen so_far.counted step.is_body so_far.of;
}

pub through : (bytes : List ℕ) (lines : ℕ) (reader : Reader) (found : Through) → IsSoFar bytes reader lines → reader.len ≡ length bytes
    → told_at reader bytes ≡ [] → found.len ≡ reader.len → found.at ≡ reader.at → found.seal ≡ reader.seal → found.lines ≡ lines
    → IsThrough bytes found
through bytes lines reader found so_far len none same_len same_at same_seal same_lines = record {
  text = so_far.text ∙ ap (λ (l : List (List ℕ)). take reader.at bytes ++ sealed_lines reader.seal l) none ∙ append-nil (take reader.at bytes)
      ∙ ap (λ n. take n bytes) (sym same_at);
  seal = same_seal ∙ sym (so_far.seal ∙ ap (λ (l : List (List ℕ)). last_seal reader.seal l) none);
  len = same_len ∙ len;
  within = let in_file = reader.within in omega (arith, in_file, len, same_at);
  lines = let so = so_far.counted in let told = ap length none in omega (arith, so, told, same_lines);
}

pub kept_through : {K : Type 0} (is_of : List (List ℕ) → K → Type 0) (bytes : List ℕ) (lines : ℕ) (reader : Reader) (keeper : K) → KeepsSoFar is_of bytes reader lines keeper
    → told_at reader bytes ≡ [] → is_of (told bytes) keeper
kept_through is_of bytes lines reader keeper so_far none =
    subst (λ (l : List (List ℕ)). is_of l keeper) (sym (so_far.told ∙ ap (λ (l : List (List ℕ)). so_far.seen ++ l) none ∙ append-nil so_far.seen)) so_far.of
