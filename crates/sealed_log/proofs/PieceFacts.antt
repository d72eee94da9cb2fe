-- A line that is read piece by piece.
use Rattle.std.proofs.Common.{◌≡◌, ◌≢◌, ◌∙◌, ℕ, ◌≤◌, ◌<◌, List, [], ◌∷◌, ◌++◌, length, Option, Some, None, Ok, true, sym, ap, subst, append_assoc}
use Rattle.std.proofs.lemmas.List.Elements.{All-append}
use Rattle.std.proofs.KnownBytes.{Consumes-trans}
use Rattle.std.specs.Io.KnownBytes.{Consumes}
use Rattle.streams.proofs.LineFacts.{after_line-feed, first_line-feed, has_line}
use Rattle.streams.specs.Lines.{NoFeed}
use Rattle.sealed_log.specs.Input.{IsPiece, ReadsText}
use Rattle.sealed_log.specs.Sealed.{longest}

abbrev IsNoFeed : ℕ → Type 0
IsNoFeed b = b ≢ 10

-- what was read so far is the beginning of a line
pub record IsBegun (old new : Option (List ℕ)) (text : List ℕ) : Type 0 where
  pub one : NoFeed text
  pub read : Consumes old new text
  pub short : length text ≤ longest

-- a piece more, and what stands behind it
read_more : (old here new : Option (List ℕ)) (before after behind : List ℕ) → Consumes old here before → IsPiece here new before after behind → Consumes old new (after ++ behind)
read_more old here new before after behind begun piece =
    subst (Consumes old new) (sym (append_assoc before piece.piece behind) ∙ ap (λ (l : List ℕ). l ++ behind) (sym piece.is))
    (Consumes-trans old here new before (piece.piece ++ behind) begun piece.read)

one_more : (here new : Option (List ℕ)) (before after behind : List ℕ) → NoFeed before → IsPiece here new before after behind → NoFeed after
one_more here new before after behind one piece = subst NoFeed (sym piece.is) (All-append IsNoFeed before piece.piece one piece.one)

whole : (old new : Option (List ℕ)) (text : List ℕ) → NoFeed text → length text < longest → Consumes old new (text ++ 10 ∷ []) → ReadsText old new text (Ok true)
whole None new text one short read = tt
whole (Some bytes) None text one short read = absurd read
whole (Some bytes) (Some rest) text one short read =
    let is : bytes ≡ text ++ 10 ∷ rest = read ∙ append_assoc text (10 ∷ []) rest in
    subst (λ (l : List ℕ). ReadsText (Some l) (Some rest) text (Ok true)) (sym is)
    (has_line text rest one, sym (first_line-feed text rest one), short, ap (λ l. Some l) (sym (after_line-feed text rest one)))

pub text_read : (old here new : Option (List ℕ)) (before after : List ℕ) → IsBegun old here before → IsPiece here new before after (10 ∷ []) → length after < longest
    → ReadsText old new after (Ok true)
text_read old here new before after begun piece short =
    whole old new after (one_more here new before after (10 ∷ []) begun.one piece) short (read_more old here new before after (10 ∷ []) begun.read piece)
