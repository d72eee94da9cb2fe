-- What a command says on standard error before it ends, whatever comes of it.
use Rattle.std.specs.Prelude.{◌≡◌, ◌⊎◌, ℕ, List, Bool, true, false, codes, is_none, Option}
use Rattle.command_line.specs.declared.command.Command.{Command}
use Rattle.command_line.specs.declared.command.Command.TheVariants as command
use Rattle.command_line.specs.declared.command.JournalWords.{JournalWords}
use Rattle.command_line.specs.declared.command.JournalWords.TheVariants.{Without}
use Rattle.streams.specs.declared.counted.Counted.{Counted}
use Rattle.command_host.specs.Known.{Known}
use Rattle.command_host.specs.Said.{IsSaid}
use Rattle.changing_commands.specs.Served.{MayNote}
use Rattle.desk_lines.specs.Notes.{AreNotes}
use Rattle.reading_commands.specs.Moments.{HasCompared, MayHaveNoted}

-- the line that says that an office goes on without its journal
abbrev pub without_line : List ℕ
without_line =
    codes "office: without its journal, which tells nothing of what happens from now on\n"

-- the line that says that an office was founded without a journal
abbrev pub never_line : List ℕ
never_line = codes "office: without a journal, which this office will never have\n"

-- words on a journal say that an office goes on without
abbrev pub is_without : JournalWords → Bool
is_without Without = true
is_without _ = false

-- a command says that an office goes on without its journal
abbrev pub goes_without : Command → Bool
goes_without (command.Desk database journal) = is_without journal
goes_without (command.Serve words) = is_without words.journal
goes_without (command.Migrate database without) = without
goes_without _ = false

-- what standard error had and has, where a line is said, and where it isn't
module _ {E : Type 0} (said_of : E → Option (List ℕ)) (errors warned : Counted E) where
  abbrev pub SaysIf : Bool → (line : List ℕ) → Type 0
  SaysIf true line = IsSaid said_of errors warned line
  SaysIf false line = warned ≡ errors

-- of what this is known that the program gets from outside, and what standard error had and has
module _ {S D F L N E : Type 0} (k : Known S D F L N) (said_of : E → Option (List ℕ))
    (errors noted : Counted E) where
  -- a command that ended well: a desk, lines that are no requests; `init`, that the office will never
  -- have a journal, just where none was named; `verify`, that a file changed while it was read, just
  -- where one did; any other nothing
  abbrev pub HasNotedWell : Command → Type 0
  HasNotedWell command.Trial = MayNote (AreNotes said_of) errors noted
  HasNotedWell (command.Desk database journal) = MayNote (AreNotes said_of) errors noted
  HasNotedWell (command.Init words) =
      SaysIf said_of errors noted (is_none words.journal) never_line
  HasNotedWell (command.Verify words) =
      HasCompared said_of errors noted (k.places words.database.now) k.stamps words.journal.now
  HasNotedWell _ = noted ≡ errors

  -- a command, however it ended: nothing; or a desk, lines that are no requests, `init`, that the office
  -- will never have a journal, and `verify`, that a file changed while it was read
  abbrev pub HasNoted : Command → Type 0
  HasNoted command.Trial = MayNote (AreNotes said_of) errors noted
  HasNoted (command.Desk database journal) = MayNote (AreNotes said_of) errors noted
  HasNoted (command.Init words) =
      (noted ≡ errors) ⊎ SaysIf said_of errors noted (is_none words.journal) never_line
  HasNoted (command.Verify words) =
      MayHaveNoted said_of errors noted (k.places words.database.now) k.stamps words.journal.now
  HasNoted _ = noted ≡ errors

module _ {S D F L N E : Type 0} (k : Known S D F L N) (said_of : E → Option (List ℕ))
    (errors noted : Counted E) where
  -- of a command that ended well, that the office goes on without its journal, just where it does, and then
  -- what it noted
  abbrev pub HasNotedAllWell : Command → Type 0
  HasNotedAllWell asked =
      (warned : Counted E) × SaysIf said_of errors warned (goes_without asked) without_line
      × HasNotedWell k said_of warned noted asked

  -- nothing; or, of a command that is carried out, that the office goes on without its journal, and then
  -- what it noted
  abbrev pub HasNotedAll : Command → Type 0
  HasNotedAll asked =
      (noted ≡ errors)
      ⊎ ((warned : Counted E) × SaysIf said_of errors warned (goes_without asked) without_line
      × HasNoted k said_of warned noted asked)
