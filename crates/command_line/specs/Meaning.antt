-- What the words of a command line ask for, by the command that clap finds in them and the values that it
-- gives.
use Rattle.std.specs.Prelude.{◌≡◌, ◌==◌, ◌&&◌, ◌||◌, ◌-◌, ◌^◌, ℕ, Bool, true, false, Option, Some}
use Rattle.std.specs.Prelude.{None, List, bytes_eq, [], codes, length, map, nat_le, option_map, unwrap_or}
use Rattle.std.specs.List.{after_first, before_first, list_all}
use Rattle.std.specs.Str.Parse.{digits_value, without_leading_plus}
use Rattle.clap.specs.Words.{IsUnsignedIn, Row, Text, all_of, first_of, found_of, one_of, rows_of}
use Rattle.clap.specs.declared.parser.matches.ArgMatches.{ArgMatches}
use Rattle.command_line.specs.declared.command.Command.{Command}
use Rattle.command_line.specs.declared.command.Command.TheVariants.{Trial, Check, Execve, Init}
use Rattle.command_line.specs.declared.command.Command.TheVariants.{Desk, Serve, Migrate, Compare}
use Rattle.command_line.specs.declared.command.Command.TheVariants.{Verify, Rebuild, History}
use Rattle.command_line.specs.declared.command.Command.TheVariants.{Evidence}
use Rattle.command_line.specs.declared.command.EvidenceWords.{EvidenceWords}
use Rattle.command_line.specs.declared.command.ExecveWords.{ExecveWords}
use Rattle.command_line.specs.declared.command.HistoryWords.{HistoryWords}
use Rattle.command_line.specs.declared.command.InitWords.{InitWords}
use Rattle.command_line.specs.declared.command.JournalWords.{JournalWords}
use Rattle.command_line.specs.declared.command.JournalWords.TheVariants.{Unnamed, Named, Without}
use Rattle.command_line.specs.declared.command.KeptSeal.{KeptSeal}
use Rattle.command_line.specs.declared.evidence.TheConstants.{LAST_REVISION}
use Rattle.command_line.specs.declared.command.Requests.{Requests}
use Rattle.command_line.specs.declared.command.Requests.TheVariants.{Count, UntilStopped}
use Rattle.command_line.specs.declared.command.ServeWords.{ServeWords}
use Rattle.command_line.specs.declared.command.VerifyWords.{VerifyWords}

-- the values that are given to a subcommand, and the one of this name
abbrev pub values_of : ArgMatches → List Row
values_of given = rows_of (found_of given)

abbrev pub value_of : Text → ArgMatches → Option Text
value_of id given = one_of id (values_of given)

-- the first value that the rows give under this name is this text
abbrev pub Gives : List Row → Text → Text → Type 0
Gives rows id text = first_of id rows ≡ Some text

-- the flag of this text is set
abbrev pub IsFlag : Option Text → Bool → Type 0
IsFlag None set = set ≡ false
IsFlag (Some text) set = (text ≡ codes "true" → set ≡ true) × (text ≡ codes "false" → set ≡ false)

-- each value of execve is the one that the rows give for it
pub record HasValues (rows : List Row) (words : ExecveWords) : Type 0 where
  pub file : Gives rows (codes "file") words.file.now
  pub root : IsFlag (one_of (codes "root") rows) words.root
  pub file_permitted : first_of (codes "file-permitted") rows
      ≡ option_map (λ s. s.now) words.file_permitted
  pub file_inheritable : first_of (codes "file-inheritable") rows
      ≡ option_map (λ s. s.now) words.file_inheritable
  pub file_effective : IsFlag (one_of (codes "file-effective") rows) words.file_effective

-- each value of init is the one that the rows give for it, the capabilities all that they give, in
-- order
pub record HasInitValues (rows : List Row) (words : InitWords) : Type 0 where
  pub database : Gives rows (codes "database") words.database.now
  pub name : Gives rows (codes "name") words.name.now
  pub team : Gives rows (codes "team") words.team.now
  pub digest : Gives rows (codes "digest") words.digest.now
  pub capabilities : map (λ s. s.now) words.capabilities.items
      ≡ unwrap_or (all_of (codes "capability") rows) []
  pub journal : first_of (codes "journal") rows ≡ option_map (λ s. s.now) words.journal

-- the text is decimal digits, after at most one plus sign, that write n, a number from low to high
abbrev pub IsNumberIn : ℕ → ℕ → ℕ → Option Text → Type 0
IsNumberIn low high n None = ⊥
IsNumberIn low high n (Some text) =
    IsUnsignedIn low high text × (n ≡ digits_value 10 (without_leading_plus text))

-- how many exchanges that is; until it is stopped, 2^64 - 1, to which no run comes
abbrev pub exchanges_of : Requests → ℕ
exchanges_of (Count n) = n
exchanges_of UntilStopped = 2 ^ 64 - 1

-- the flag is set, if there is one
abbrev pub is_set : Option Text → Bool
is_set None = false
is_set (Some text) = bytes_eq text (codes "true")

-- `--until-stopped` is there
abbrev pub is_until_stopped : List Row → Bool
is_until_stopped rows = is_set (first_of (codes "until-stopped") rows)

-- one of `--requests` and `--until-stopped` is there and the other isn't: a number within its
-- limits, or the flag
abbrev pub AreRequests : List Row → Requests → Type 0
AreRequests rows (Count n) =
    (is_until_stopped rows ≡ false) × IsNumberIn 1 1000000 n (one_of (codes "requests") rows)
AreRequests rows UntilStopped =
    (is_until_stopped rows ≡ true) × (first_of (codes "requests") rows ≡ None)

-- a journal is named, or it is said that there is to be none, or neither; both are never said
abbrev pub IsJournalGiven : List Row → JournalWords → Type 0
IsJournalGiven rows Unnamed =
    (first_of (codes "journal") rows ≡ None)
    × (is_set (first_of (codes "without-journal") rows) ≡ false)
IsJournalGiven rows (Named file) =
    Gives rows (codes "journal") file.now
    × (is_set (first_of (codes "without-journal") rows) ≡ false)
IsJournalGiven rows Without =
    (first_of (codes "journal") rows ≡ None)
    × (is_set (first_of (codes "without-journal") rows) ≡ true)

-- the file of the journal that is named
abbrev pub journal_named : JournalWords → Option Text
journal_named (Named file) = Some file.now
journal_named _ = None

-- each value of serve is the one that the rows give for it, the numbers within their limits
pub record HasServeValues (rows : List Row) (words : ServeWords) : Type 0 where
  pub database : Gives rows (codes "database") words.database.now
  pub port : IsNumberIn 0 65535 words.port (one_of (codes "port") rows)
  pub requests : AreRequests rows words.requests
  pub journal : IsJournalGiven rows words.journal

-- each value of compare is the one that the rows give for it
pub record HasCompareValues (rows : List Row) (base_file new_file : Text) : Type 0 where
  pub base : Gives rows (codes "base") base_file
  pub new : Gives rows (codes "new") new_file

-- 0-9 and a-f
abbrev pub is_seal_digit : ℕ → Bool
is_seal_digit c = (nat_le 48 c && nat_le c 57) || (nat_le 97 c && nat_le c 102)

-- 64 lower-case hexadecimal digits
pub record IsSealText (text : Text) : Type 0 where
  pub long : length text ≡ 64
  pub digits : list_all is_seal_digit text ≡ true

-- a number from 1, of 64 bits, stands before the first colon of the text, and a seal behind it
pub record IsKeptSeal (text : Text) (kept : KeptSeal) : Type 0 where
  pub line : IsNumberIn 1 18446744073709551615 kept.line
      (Some (before_first (λ byte. byte == 58) text))
  pub seal : kept.seal ≡ after_first (λ byte. byte == 58) text
  pub is_seal : IsSealText kept.seal

-- the text, if there is one, names this line and this seal
abbrev pub IsSealGiven : Option Text → Option KeptSeal → Type 0
IsSealGiven None seal = seal ≡ None
IsSealGiven (Some text) None = ⊥
IsSealGiven (Some text) (Some kept) = IsKeptSeal text kept

-- each value of verify is the one that the rows give for it
pub record HasVerifyValues (rows : List Row) (words : VerifyWords) : Type 0 where
  pub database : Gives rows (codes "database") words.database.now
  pub journal : Gives rows (codes "journal") words.journal.now
  pub seal : IsSealGiven (first_of (codes "seal") rows) words.seal
  pub mark : words.mark ≡ is_set (first_of (codes "mark") rows)

-- each value of rebuild is the one that the rows give for it
pub record HasRebuildValues (rows : List Row) (new_file journal_file : Text) : Type 0 where
  pub database : Gives rows (codes "database") new_file
  pub journal : Gives rows (codes "journal") journal_file

-- each value of history is the one that the rows give for it, the number within its limits
pub record HasHistoryValues (rows : List Row) (words : HistoryWords) : Type 0 where
  pub journal : Gives rows (codes "journal") words.journal.now
  pub team : first_of (codes "team") rows ≡ option_map (λ s. s.now) words.team
  pub profile : first_of (codes "profile") rows ≡ option_map (λ s. s.now) words.profile
  pub user : first_of (codes "user") rows ≡ option_map (λ s. s.now) words.user
  pub since : IsNumberIn 1 18446744073709551615 words.since (one_of (codes "since") rows)
  pub json : IsFlag (one_of (codes "json") rows) words.json

-- no `--line` is given, or its value is this number, from 1 and of 64 bits
abbrev pub IsLineGiven : List Row → Option ℕ → Type 0
IsLineGiven rows None = first_of (codes "line") rows ≡ None
IsLineGiven rows (Some n) = IsNumberIn 1 18446744073709551615 n (one_of (codes "line") rows)

-- each value of evidence is the one that the rows give for it, the numbers within their limits
pub record HasEvidenceValues (rows : List Row) (words : EvidenceWords) : Type 0 where
  pub journal : Gives rows (codes "journal") words.journal.now
  pub team : Gives rows (codes "team") words.team.now
  pub profile : Gives rows (codes "profile") words.profile.now
  pub revision : IsNumberIn 1 LAST_REVISION words.revision (one_of (codes "revision") rows)
  pub line : IsLineGiven rows words.line

-- the subcommand of this name, with these rows of values, asks for the command
abbrev pub AsksFor : Text → List Row → Command → Type 0
AsksFor name rows Trial = ⊥
AsksFor name rows (Check file) = (name ≡ codes "check") × Gives rows (codes "file") file.now
AsksFor name rows (Execve words) = (name ≡ codes "execve") × HasValues rows words
AsksFor name rows (Init words) = (name ≡ codes "init") × HasInitValues rows words
AsksFor name rows (Desk database journal) =
    (name ≡ codes "desk") × Gives rows (codes "database") database.now
    × IsJournalGiven rows journal
AsksFor name rows (Serve words) = (name ≡ codes "serve") × HasServeValues rows words
AsksFor name rows (Migrate database without) =
    (name ≡ codes "migrate") × Gives rows (codes "database") database.now
    × (without ≡ is_set (first_of (codes "without-journal") rows))
AsksFor name rows (Compare base new) =
    (name ≡ codes "compare") × HasCompareValues rows base.now new.now
AsksFor name rows (Verify words) = (name ≡ codes "verify") × HasVerifyValues rows words
AsksFor name rows (Rebuild database journal) =
    (name ≡ codes "rebuild") × HasRebuildValues rows database.now journal.now
AsksFor name rows (History words) = (name ≡ codes "history") × HasHistoryValues rows words
AsksFor name rows (Evidence words) = (name ≡ codes "evidence") × HasEvidenceValues rows words

-- the command is what the subcommand that was found asks for; without one it is the trial desk
abbrev pub IsCommand : Option (Text × List Row) → Command → Type 0
IsCommand None command = command ≡ Trial
IsCommand (Some found) command = AsksFor found.0 found.1 command
