-- What is read of a log as a stream.
use Rattle.std.specs.Prelude.{◌≡◌, ◌≢◌, ◌⊎◌, ◌<◌, ◌≤◌, ⊤, ℕ, List, [], ◌∷◌, ◌++◌, Bool, true, false}
use Rattle.std.specs.Prelude.{length, Option, Some, Result, Ok, Err, IfSome}
use Rattle.std.specs.Io.KnownBytes.{Consumes, IsAtEnd, Keeps}
use Rattle.std.specs.declared.io.ErrorKind.{ErrorKind}
use Rattle.std.specs.declared.io.ErrorKind.TheVariants.{Interrupted, OutOfMemory}
use Rattle.streams.specs.Held.{HasLine}
use Rattle.streams.specs.Lines.{NoFeed, first_line, after_line}
use Rattle.sealed_log.specs.Sealed.{IsBody, longest, seal_on, sealed_line}
use Rattle.sealed_log.specs.Told.{IsSeal, body_in, is_sealed}
use Rattle.sealed_log.specs.declared.input.Piece.{Piece}
use Rattle.sealed_log.specs.declared.input.Piece.TheVariants.{Nothing, Part, Whole}
use Rattle.sealed_log.specs.declared.unreadable.Unreadable.{Unreadable}
use Rattle.sealed_log.specs.declared.unreadable.Unreadable.TheVariants.{NotALine, NoEventBefore}
use Rattle.sealed_log.specs.declared.unreadable.Unreadable.TheVariants.{NoMemory, Read, TornLine}
use Rattle.sealed_log.specs.declared.unreadable.Unreadable.TheVariants.{Unsealed}
use Rattle.no_memory.specs.Witness.{witness}

-- why the input isn't read
abbrev pub input_fault : ErrorKind → Unreadable
input_fault OutOfMemory = NoMemory witness
input_fault _ = Read

-- what it makes of a piece of a line: a read that was interrupted is made again
abbrev pub piece_of_kind : ErrorKind → Result Piece Unreadable
piece_of_kind Interrupted = Ok Part
piece_of_kind kind = Err (input_fault kind)

-- the input or memory failed, and not the log
abbrev pub IsOutside : Unreadable → Type 0
IsOutside NotALine = ⊥
IsOutside NoEventBefore = ⊥
IsOutside Unsealed = ⊥
IsOutside TornLine = ⊥
IsOutside Read = Unit {0}
IsOutside (NoMemory _) = Unit {0}

-- nothing was read, and it may be tried again; or the input or memory failed
abbrev pub IsInterruption : Result Piece Unreadable → Type 0
IsInterruption (Ok Part) = Unit {0}
IsInterruption (Ok Whole) = ⊥
IsInterruption (Ok Nothing) = ⊥
IsInterruption (Err fault) = IsOutside fault

-- the bytes begin with a line that isn't sealed behind what has the seal `prior`
pub record IsUnsealed (prior bytes : List ℕ) : Type 0 where
  pub line : List ℕ
  pub rest : List ℕ
  pub is : bytes ≡ line ++ 10 ∷ rest
  pub one : NoFeed line
  pub short : length line < longest
  pub other : is_sealed prior line ≡ false

-- no line feed stands among as many bytes as a line can have
pub record IsTooLong (bytes : List ℕ) : Type 0 where
  pub front : List ℕ
  pub rest : List ℕ
  pub is : bytes ≡ front ++ rest
  pub none : NoFeed front
  pub long : longest ≤ length front

-- why no body is read of bytes; when the input fails, or memory, no contract can say
abbrev pub HasNoBody : Unreadable → List ℕ → List ℕ → Type 0
HasNoBody NotALine prior bytes = IsTooLong bytes
HasNoBody NoEventBefore prior bytes = ⊥
HasNoBody Unsealed prior bytes = IsUnsealed prior bytes
HasNoBody TornLine prior bytes = NoFeed bytes × (bytes ≢ [])
HasNoBody Read prior bytes = Unit {0}
HasNoBody (NoMemory _) prior bytes = Unit {0}

-- a piece of a line was read, and what stands behind it
pub record IsPiece (old new : Option (List ℕ)) (before after behind : List ℕ) : Type 0 where
  pub piece : List ℕ
  pub is : after ≡ before ++ piece
  pub one : NoFeed piece
  pub read : Consumes old new (piece ++ behind)

-- the line goes on, and isn't too long yet; or its line feed was read; or no byte is left; or the
-- input or memory failed
abbrev pub ReadsPiece : (old new : Option (List ℕ)) → (before after : List ℕ)
    → Result Piece Unreadable → Type 0
ReadsPiece old new before after (Ok Part) =
    IsPiece old new before after [] × (length after ≤ longest)
ReadsPiece old new before after (Ok Whole) =
    IsPiece old new before after (10 ∷ []) × (length after < longest)
ReadsPiece old new before after (Ok Nothing) =
    (after ≡ before) × IsAtEnd old × Keeps old new
ReadsPiece old new before after (Err fault) = IsOutside fault

-- the first line is read, or no byte is left
abbrev pub ReadsText : (old new : Option (List ℕ)) → List ℕ → Result Bool Unreadable → Type 0
ReadsText old new text (Ok true) =
    IfSome old
    (λ bytes. HasLine bytes × (text ≡ first_line bytes) × (length text < longest)
    × (new ≡ Some (after_line bytes)))
ReadsText old new text (Ok false) = IfSome old (λ bytes. (bytes ≡ []) × (new ≡ Some []))
ReadsText old new text (Err fault) =
    IfSome old (λ bytes. (prior : List ℕ) → HasNoBody fault prior bytes)

-- the text is that of a sealed line, with this seal, and became its body; or memory ran out, or it
-- isn't sealed
abbrev pub Unseals : (prior seal text body : List ℕ) → Result ⊤ Unreadable → Type 0
Unseals prior seal text body (Ok done) = IsSeal prior text seal × (body ≡ body_in text)
Unseals prior seal text body (Err fault) =
    (fault ≡ NoMemory witness) ⊎ ((fault ≡ Unsealed) × (is_sealed prior text ≡ false))

-- the first line is that of this body, and this is its seal
pub record IsBodyOf (prior seal body bytes : List ℕ) (new : Option (List ℕ)) : Type 0 where
  pub rest : List ℕ
  pub is : bytes ≡ sealed_line prior body ++ rest
  pub is_body : IsBody body
  pub sealed : seal ≡ seal_on prior body
  pub left : new ≡ Some rest

-- the body of the first line is read, or no byte is left
abbrev pub ReadsBody : (old new : Option (List ℕ)) → (prior seal body : List ℕ)
    → Result Bool Unreadable → Type 0
ReadsBody old new prior seal body (Ok true) =
    IfSome old (λ bytes. IsBodyOf prior seal body bytes new)
ReadsBody old new prior seal body (Ok false) =
    IfSome old (λ bytes. (bytes ≡ []) × (new ≡ Some [])) × (seal ≡ prior)
ReadsBody old new prior seal body (Err fault) =
    IfSome old (λ bytes. HasNoBody fault prior bytes)
