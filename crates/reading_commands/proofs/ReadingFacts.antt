-- How far a file is read.
use Rattle.std.proofs.Common.{◌≡◌, ◌∙◌, ℕ, ◌+◌, List, [], ◌++◌, take, Option, Result, add-one, refl, sym, ap, subst, append-nil, append_assoc}
use Rattle.std.specs.Io.KnownBytes.{Consumes, Keeps}
use Rattle.std.proofs.KnownBytes.{Consumes-kept, Consumes-nil, Consumes-trans}
use Rattle.std.specs.declared.io.Error.{Error}
use Rattle.reading_commands.specs.Reading.{AreCalls, HasReadOn, IsCall}

module _ {F : Type 0} (Gives : F → F → Result ℕ Error → List ℕ → Type 0) where
  pub calls_none : (first : F) → AreCalls Gives 0 first first
  unfolding AreCalls
  calls_none first = refl

  pub calls_more : (count : ℕ) (first was last : F) → AreCalls Gives count first was → IsCall Gives was last → AreCalls Gives (count + 1) first last
  unfolding AreCalls
  calls_more count first was last calls call = rw (add-one count) (was, calls, call)

-- what was read so far
pub record IsReadSoFar (old new : Option (List ℕ)) (before after : List ℕ) : Type 0 where
  pub more : List ℕ
  pub parts : after ≡ before ++ more
  pub read : Consumes old new more

pub read_none : (old : Option (List ℕ)) (before : List ℕ) → IsReadSoFar old old before before
read_none old before = record { more = []; parts = sym (append-nil before); read = Consumes-nil old }

pub read_more : (old mid new : Option (List ℕ)) (before between after some : List ℕ) → IsReadSoFar old mid before between → Consumes mid new some → after ≡ between ++ some
    → IsReadSoFar old new before after
read_more old mid new before between after some so_far read is = record {
  more = so_far.more ++ some;
  parts = is ∙ ap (λ xs. xs ++ some) so_far.parts ∙ append_assoc before so_far.more some;
  read = Consumes-trans old mid new so_far.more some so_far.read read;
}

pub read_no_more : (old mid new : Option (List ℕ)) (before after : List ℕ) → IsReadSoFar old mid before after → Keeps mid new → IsReadSoFar old new before after
read_no_more old mid new before after so_far kept =
    record { more = so_far.more; parts = so_far.parts; read = Consumes-kept old mid new so_far.more so_far.read kept }

-- what was read from the beginning
pub read_from_start : (old new : Option (List ℕ)) (before after : List ℕ) (most : ℕ) → before ≡ [] → HasReadOn old new before after most → Consumes old new after
read_from_start old new before after most none it = subst (λ (xs : List ℕ). Consumes old new xs) (sym (it.parts ∙ ap (λ b. b ++ it.more) none)) it.read
