-- An office in a file that was built anew of a journal.
use Rattle.std.specs.Prelude.{◌≡◌, ◌⊎◌, ◌-◌, ℕ, List, codes, Option, Some, None, Result}
use Rattle.std.specs.Prelude.{nat_lt, if◌then◌else◌}
use Rattle.std.specs.declared.io.Error.{Error as IoError}
use Rattle.sqlite.specs.Held.{Held, state}
use Rattle.sqlite.specs.Store.{Ghosts}
use Rattle.sqlite.specs.State.{HasCleanDisk}
use Rattle.desk_http.specs.Lines.{IsCut, IsWhole}
use Rattle.journal_office.specs.Rebuilding.{IsBuilt, IsUnbuilt}
use Rattle.journal_faults.specs.declared.refused.Refused.{Refused}
use Rattle.journal_faults.specs.declared.refused.Why.{Why}
use Rattle.journal_faults.specs.declared.refused.Why.TheVariants as halt
use Rattle.review_office.specs.Meant.{meaning_over}
use Rattle.office_store.specs.Schema.{no_schema}
use Rattle.command_host.specs.declared.databases.Databases as databases
use Rattle.command_host.specs.declared.fault.CommandFault.{CommandFault}
use Rattle.command_host.specs.declared.fault.CommandFault.TheVariants as fault
use Rattle.command_host.specs.Marks.{mark_of_lines}
use Rattle.changing_commands.specs.declared.rebuild.Built.{Built}
use Rattle.command_host.specs.ReadFaults.{IsToldOf}
use Rattle.command_host.specs.JournalTexts.{IsNoText, IsTextAt}
use Rattle.command_host.specs.Openings.{IsClosed, IsEnded, IsUnlimited, IsUnopened}
use Rattle.command_host.specs.Said.{seal_line}
use Rattle.streams.specs.declared.counted.Counted.{Counted}

-- What is told of why a journal isn't built on: where its founding founds no office in a database,
-- just what `init` tells of that.
abbrev pub told_by : Refused → Why → CommandFault
told_by refused (halt.Unfounded why) = fault.Founding why
told_by refused _ = fault.Unbuilt refused

abbrev pub told_of : Refused → CommandFault
told_of refused = told_by refused refused.why

-- the mark of a database in which all before a line happened again
abbrev pub mark_before : ℕ → Option ℕ
mark_before line = if nat_lt 1 line then Some (mark_of_lines (line - 1)) else None

-- of journals of which this is known as they are opened, and whose bytes are these
module _ {S F : Type 0} (g : Ghosts S) (Opens : Result F IoError → Type 0)
    (bytes_of : F → Option (List ℕ)) (Opened : Held S → Type 0)
    (Closed : Held S → Option ℕ → Type 0) where
  -- An office was built anew of all that a journal tells, in an empty database that was opened; it
  -- has so many events, and this is the seal of the journal. It was closed with the mark of that, of
  -- which this is known.
  pub record WasRebuilt (built : Built) : Type 0 where
    pub text : Option (List ℕ)
    pub journal : IsTextAt Opens bytes_of text
    pub was : Held S
    pub opened : IsUnlimited Opened was
    pub empty : (state g was).now.schema ≡ no_schema
    pub office : Held S
    -- a disk that is clean was clean before
    pub clean : HasCleanDisk (state g office) → HasCleanDisk (state g was)
    pub lines : ℕ
    pub rebuilt : IsBuilt text (meaning_over g) office built.events built.seal lines
    pub closed : Closed office (Some (mark_of_lines lines))

  -- not all that it tells happened again over a database that was opened, for this; and that was
  -- closed with what did, and with the mark of the lines before, of which this is known
  pub record WasUnbuilt (refused : Refused) : Type 0 where
    pub text : Option (List ℕ)
    pub journal : IsTextAt Opens bytes_of text
    pub was : Held S
    pub left : Held S
    pub opened : IsUnlimited Opened was
    pub unbuilt : IsUnbuilt text g was left refused
    pub closed : Closed left (mark_before refused.line)

-- of databases of which this is known, and of the one at a path, and of journals as they are opened and read
module _ {S D C F : Type 0} (g : Ghosts S) (d : databases.Ghosts D (Held S) C) (path : List ℕ)
    (Opens : Result F IoError → Type 0) (Gives : F → F → Result ℕ IoError → List ℕ → Type 0)
    (bytes_of : F → Option (List ℕ)) where
  -- No text is there, or no database; or the journal isn't built on, which is told, and the database was closed,
  -- whatever came of that. Or all of it is, and the database couldn't be closed.
  abbrev pub IsUnrebuilt : CommandFault → Type 0
  IsUnrebuilt why =
      IsNoText Opens why ⊎ IsUnopened d path why
      ⊎ ((refused : Refused) × WasUnbuilt g Opens bytes_of (d.opened path) (IsEnded d) refused
      × IsToldOf Gives (told_of refused) why)
      ⊎ ((built : Built) × WasRebuilt g Opens bytes_of (d.opened path) (IsEnded d) built
      × (why ≡ fault.Close))

  -- What an output has after what it had.
  module _ {O : Type 0} (contents : O → Option (List ℕ)) (output wrote : Counted O) where
    -- an office was built anew and closed, and its line was printed
    pub record HasRebuilt : Type 0 where
      pub built : Built
      pub office : WasRebuilt g Opens bytes_of (d.opened path) (IsClosed d.closed) built
      pub printed : IsWhole contents output wrote (seal_line (codes "rebuilt") built.events built.seal)

    -- the line of an office that was built anew wasn't printed, for want of memory, or was cut
    abbrev pub IsUnsaid : Built → CommandFault → Type 0
    IsUnsaid built (fault.NoMemory _) = wrote ≡ output
    IsUnsaid built fault.Write = IsCut contents output wrote (seal_line (codes "rebuilt") built.events built.seal)
    IsUnsaid built _ = ⊥

    -- no office was built anew, and nothing was printed; or one was, and its line wasn't printed
    abbrev pub FailsToRebuild : CommandFault → Type 0
    FailsToRebuild why =
        (IsUnrebuilt why × (wrote ≡ output))
        ⊎ ((built : Built) × WasRebuilt g Opens bytes_of (d.opened path) (IsClosed d.closed) built
        × IsUnsaid built why)
