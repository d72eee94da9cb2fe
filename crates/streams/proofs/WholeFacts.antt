-- How far the writing of some bytes has come.
use Rattle.std.proofs.Common.{◌≡◌, ◌∙◌, ℕ, ◌<◌, List, ◌++◌, length, take, drop, refl, sym, ap, arith, append_assoc, append-nil, length-append, take-append-drop, take_at}
use Rattle.std.proofs.KnownBytes.{Appends-trans, Appends-kept}
use Rattle.std.specs.Prelude.{Option, Some, None}
use Rattle.std.specs.Io.KnownBytes.{Keeps, Appends}
use Rattle.streams.specs.Steps.{AppendsPart}

-- what came before the rest was appended
pub record Written (old new : Option (List ℕ)) (bytes rest : List ℕ) : Type 0 where
  pub front : List ℕ
  pub split : bytes ≡ front ++ rest
  pub appended : Appends old new front

pub more_written : (old mid new : Option (List ℕ)) (bytes rest : List ℕ) (n : ℕ) → Written old mid bytes rest → Appends mid new (take n rest) → Written old new bytes (drop n rest)
more_written old mid new bytes rest n w more =
    record {
      front = w.front ++ take n rest;
      split = w.split ∙ ap (λ x. w.front ++ x) (sym (take-append-drop n rest)) ∙ sym (append_assoc w.front (take n rest) (drop n rest));
      appended = Appends-trans old mid new w.front (take n rest) w.appended more;
    }

pub part_written : (old mid new : Option (List ℕ)) (bytes rest : List ℕ) → Written old mid bytes rest → 0 < length rest → Keeps mid new → AppendsPart old new bytes
part_written old mid new bytes rest w some keeps =
    (length w.front, omega (arith, ap length w.split, length-append w.front rest), rw (w.split, take_at w.front rest (length w.front) refl) (Appends-kept old mid new w.front w.appended keeps))

pub none_taken : (old new : Option (List ℕ)) (n : ℕ) (bytes : List ℕ) → n ≡ 0 → Appends old new (take n bytes) → Keeps old new
none_taken None new n bytes none h = tt
none_taken (Some xs) None n bytes none h = absurd h
none_taken (Some xs) (Some ys) n bytes none h = h ∙ ap (λ (k : ℕ). xs ++ take k bytes) none ∙ append-nil xs
