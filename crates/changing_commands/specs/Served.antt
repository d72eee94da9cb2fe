-- What `desk` and `serve` do with the office at a path, with its journal at another or without.
use Rattle.std.specs.Prelude.{◌≡◌, ◌⊎◌, ℕ, List, Option, Some, None, Result, Ok, Err, IsTrue}
use Rattle.command_line.specs.declared.command.JournalWords.{JournalWords}
use Rattle.command_line.specs.declared.command.JournalWords.TheVariants.{Unnamed, Named, Without}
use Rattle.command_line.specs.declared.command.ServeWords.{ServeWords}
use Rattle.sqlite.specs.Held.{Held}
use Rattle.review_office.specs.Meant.{meaning_over}
use Rattle.office_policy.specs.Meaning.{Meaning}
use Rattle.streams.specs.declared.counted.Counted.{Counted}
use Rattle.command_host.specs.Known.{Known}
use Rattle.command_host.specs.Marks.{has_journal, least_lines, parted_mark}
use Rattle.command_host.specs.Openings.{FailsFor, IsNotMarked, IsOfOpening, IsServed, IsServedFrom}
use Rattle.command_host.specs.Openings.{IsWithJournal, IsWithoutJournal}
use Rattle.command_host.specs.declared.fault.CommandFault.{CommandFault}
use Rattle.changing_commands.specs.Journals.{journaled_over, IsServedWith, IsUnkept}
use Rattle.changing_commands.specs.Lines.{HasEnded}
use Rattle.changing_commands.specs.Serving.{IsServing}
use Rattle.changing_commands.specs.Untouched.{AreUntouched}
use Rattle.no_memory.specs.declared.witness.NoMemory.{«NoMemory» as Want}

-- what is known of any office that was served, by how that ended
abbrev pub Comes : Type 1
Comes = (X : Type 0) → Meaning X → Result (Unit {0}) CommandFault → (old new : X) → Type 0

-- nothing was noted, or what may be where an office is served
abbrev pub MayNote : {E : Type 0} → (Notes : (errors noted : E) → Type 0) → (errors noted : E) → Type 0
MayNote Notes errors noted = (noted ≡ errors) ⊎ Notes errors noted

-- what comes of the office by what is said of its journal
abbrev pub IfNamed : JournalWords → (Unnamed Without : Type 0) → (Kept : (file : List ℕ) → Type 0)
    → Type 0
IfNamed Unnamed Unmarked Parted Kept = Unmarked
IfNamed Without Unmarked Parted Kept = Parted
IfNamed (Named file) Unmarked Parted Kept = Kept file.now

module _ {S D F L N : Type 0} (k : Known S D F L N) (path : List ℕ) where
  -- `verify --mark`: the office was opened again with a journal that has as many lines as its mark
  -- tells, whatever mark that is, and closed with the mark of the journal
  abbrev pub IsMarkedWith : (file : List ℕ) → Result (Unit {0}) CommandFault → Type 0
  IsMarkedWith file result =
      FailsFor (IsNotMarked k.databases path) result
      ⊎ ((mark : ℕ) × k.databases.marked path (Ok mark)
      × (FailsFor (IsUnkept k.store k.log (k.finds file) k.databases path (least_lines mark)) result
      ⊎ IsServedWith k.store k.log (k.finds file) k.databases path (least_lines mark)
      (λ old new. new ≡ old) (λ why old new. ⊥) result))

  -- the office was opened, and closed with the mark of one that goes on without its journal
  abbrev pub IsPartedAt : Result (Unit {0}) CommandFault → Type 0
  IsPartedAt result =
      FailsFor (IsOfOpening k.databases path k.store) result
      ⊎ IsServedFrom k.store k.databases (k.databases.opened path) (λ old new. new ≡ old)
      (λ why old new. ⊥) (Some parted_mark) result

  -- Why no office at the path is served without a journal: its database has a mark, or none that can be
  -- read; or it has no mark, and no office is there.
  abbrev pub IsUnservedUnnamed : CommandFault → Type 0
  IsUnservedUnnamed why =
      IsWithJournal k.databases path why
      ⊎ (k.databases.marked path (Ok 0) × IsOfOpening k.databases path k.store why)

  -- why none is served without its journal: its database wasn't marked so; or it was, and no office is
  -- there
  abbrev pub IsUnservedWithout : CommandFault → Type 0
  IsUnservedWithout why =
      IsPartedAt (Err why)
      ⊎ (IsPartedAt (Ok (tt {0})) × IsOfOpening k.databases path k.store why)

  -- why none is served with its journal: its database has no mark of one; or it has, and no office
  -- with its journal is there
  abbrev pub IsUnservedKept : (file : List ℕ) → CommandFault → Type 0
  IsUnservedKept file why =
      IsWithoutJournal k.databases path why
      ⊎ ((mark : ℕ) × k.databases.marked path (Ok mark) × IsTrue (has_journal mark)
      × IsUnkept k.store k.log (k.finds file) k.databases path mark why)

-- of an office, which was served so
module _ {S D F L N : Type 0} (k : Known S D F L N) (Came : Comes) where
  -- this office was, and closed as it was marked
  abbrev pub IsServedOffice : Held S → Result (Unit {0}) CommandFault → Type 0
  IsServedOffice office result =
      IsServed k.databases (Came _ (meaning_over k.store) (Ok (tt {0})))
      (λ why. Came _ (meaning_over k.store) (Err why)) None office result

  module _ (path : List ℕ) where
    -- one that was opened at a path
    abbrev pub IsServedThere : Result (Unit {0}) CommandFault → Type 0
    IsServedThere result =
        IsServedFrom k.store k.databases (k.databases.opened path)
        (Came _ (meaning_over k.store) (Ok (tt {0})))
        (λ why. Came _ (meaning_over k.store) (Err why)) None result

    -- the one at a path was; or none is served, and this is so
    module _ (Unused : Type 0) where
      -- without a journal, where its database has no mark
      abbrev pub IsServedUnnamed : Result (Unit {0}) CommandFault → Type 0
      IsServedUnnamed result =
          FailsFor (λ why. IsUnservedUnnamed k path why × Unused) result
          ⊎ (k.databases.marked path (Ok 0) × IsServedThere result)

      -- without its journal, once its database is marked so
      abbrev pub IsServedWithout : Result (Unit {0}) CommandFault → Type 0
      IsServedWithout result =
          FailsFor (λ why. IsUnservedWithout k path why × Unused) result
          ⊎ (IsPartedAt k path (Ok (tt {0})) × IsServedThere result)

      -- with its journal, where the mark of its database is of one
      abbrev pub IsServedKept : (file : List ℕ) → Result (Unit {0}) CommandFault → Type 0
      IsServedKept file result =
          FailsFor (λ why. IsUnservedKept k path file why × Unused) result
          ⊎ ((mark : ℕ) × k.databases.marked path (Ok mark) × IsTrue (has_journal mark)
          × IsServedWith k.store k.log (k.finds file) k.databases path mark
          (Came _ (journaled_over k.store k.log) (Ok (tt {0})))
          (λ why. Came _ (journaled_over k.store k.log) (Err why)) result)

      abbrev pub IsServedNamed : (journal : JournalWords) → Result (Unit {0}) CommandFault → Type 0
      IsServedNamed journal result =
          IfNamed journal (IsServedUnnamed result) (IsServedWithout result)
          (λ file. IsServedKept file result)

module _ {S D F L N O : Type 0} (k : Known S D F L N) (contents : O → Option (List ℕ))
    (output wrote : Counted O) where
  -- `desk`, over input that was to come and what of it is left, with what standard error had and has;
  -- it told this want of memory
  abbrev pub IsDesk : {E : Type 0} (said_of : E → Option (List ℕ)) (errors noted : Counted E)
      (came left : Option (List ℕ)) (want : Option Want) (path : List ℕ) (journal : JournalWords)
      → Result (Unit {0}) CommandFault → Type 0
  IsDesk said_of errors noted came left want path journal result =
      IsServedNamed k
      (λ X m. HasEnded contents said_of m came left output wrote errors noted want) path
      (AreUntouched came left output wrote errors noted × (want ≡ None)) journal result

  -- `serve`
  abbrev pub IsServedOver : (words : ServeWords) → Result (Unit {0}) CommandFault → Type 0
  IsServedOver words result =
      IsServedNamed k
      (λ X m ended old new. IsServing k.shows k.binds k.tells contents m words old new output wrote
      ended) words.database.now (wrote ≡ output) words.journal result
