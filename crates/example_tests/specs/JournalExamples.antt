-- Small values by which definitions of journals are tried: a journal that is its lines, the lines
-- of a founding, and an office with a log.
use Rattle.std.specs.Prelude.{◌≡◌, ◌-◌, ◌^◌, ℕ, min, List, [], ◌∷◌, length, Bool, true, false}
use Rattle.std.specs.Prelude.{IsTrue, if◌then◌else◌, Option, None, Some}
use Rattle.std.proofs.Common.{refl}
use Rattle.sqlite.specs.Held.{Held}
use Rattle.sqlite.specs.Store.{Ghosts}
use Rattle.sqlite_disk.specs.declared.Disk.{Ghosts as DiskGhosts}
use Rattle.sealed_log.specs.Sealed.{seal_of, sealed_text}
use Rattle.sealed_log.specs.declared.log.SealedLog.{SealedLog}
use Rattle.office_words.specs.declared.fault.Fault.TheVariants.{Disk}
use Rattle.office_policy.specs.Handled.{HasRisen}
use Rattle.office_policy.specs.History.{History}
use Rattle.office_policy.specs.ShowsEvent.{Shows}
use Rattle.office_policy.specs.TablesOf.{tables_of}
use Rattle.review_office.specs.Meant.{meaning_over}
use Rattle.journal.specs.Lines.{happened, strike, done, text_of}
use Rattle.journal.specs.Told.{Place}
use Rattle.journal.specs.Writing.{Writing}
use Rattle.journal.specs.declared.journaled.Journaled.{Journaled}
use Rattle.journal_faults.specs.declared.refused.Refused.{Refused}
use Rattle.journal_faults.specs.declared.refused.Why.{Why}
use Rattle.journal_reports.specs.Passing.{Asked}
use Rattle.journal_verification.specs.declared.verification.KeptSeal.{KeptSeal}
use Rattle.journal_verification.specs.declared.verification.Verified.{Verified}
use Rattle.example_tests.specs.Examples.{Sketch, counting, enrols, founds}

-- ---- a journal

pub record Pages : Type 0 where
  pub bodies : List (List ℕ)
  pub is_open : Bool

-- what is meant by such a journal, which is clean and has met so many faults, each of the disk
abbrev pub in_pages : (is_clean : Pages → Type 0) → (faults : Pages → ℕ) → Writing Pages
in_pages is_clean faults = record {
  is_clean = is_clean;
  bodies = λ j. j.bodies;
  is_open = λ j. j.is_open;
  lines = λ j. min (length j.bodies) (2 ^ 64 - 1);
  faults = faults;
  fails = λ old new fault. (fault ≡ Disk) × HasRisen (faults old) (faults new);
  may_leave = λ j left. left ≡ sealed_text j.bodies;
  settled = λ j clean is_open left may. may;
  counted = λ j clean is_open. refl;
  risen = λ old new fault fails. fails.1;
}

-- one no call of which fails; one that a fault has shut, where it is shut; and one that is clean only
-- while it is open
abbrev pub paged : Writing Pages
paged = in_pages (λ j. Unit {0}) (λ j. 0)

abbrev pub failing : Writing Pages
failing = in_pages (λ j. Unit {0}) (λ j. if j.is_open then 0 else 1)

abbrev pub spoilt : Writing Pages
spoilt = in_pages (λ j. IsTrue j.is_open) (λ j. 0)

-- an office with a journal that has these bodies
abbrev pub with_bodies : List (List ℕ) → Journaled Sketch Pages
with_bodies bodies = record {
  office = counting 0;
  journal = record { bodies = bodies; is_open = true };
  has_stray = false;
  is_settled = true;
}

-- an event couldn't be struck out of it
abbrev pub with_stray : List (List ℕ) → Journaled Sketch Pages
with_stray bodies = record (with_bodies bodies) { has_stray = true }

-- no line says what became of its last event
abbrev pub with_unsettled : List (List ℕ) → Journaled Sketch Pages
with_unsettled bodies = record (with_bodies bodies) { is_settled = false }

-- an event couldn't be struck out of it, and it is shut
abbrev pub with_shut : List (List ℕ) → Journaled Sketch Pages
with_shut bodies =
    record (with_stray bodies) { journal = record { bodies = bodies; is_open = false } }

-- two bodies
abbrev pub one : List ℕ
one = 1 ∷ []

abbrev pub two : List ℕ
two = 2 ∷ []

-- the journal of the founding, and with the line that says that it is carried out
abbrev pub first_line : List (List ℕ)
first_line = text_of (happened (founds 5)) ∷ []

abbrev pub first_lines : List (List ℕ)
first_lines = text_of (happened (founds 5)) ∷ text_of (done 1) ∷ []

-- the journal with the line of an enrolment, and with the one that strikes that out
abbrev pub second_lines : List (List ℕ)
second_lines = text_of (happened (founds 5)) ∷ text_of (happened enrols) ∷ []

abbrev pub struck_lines : List (List ℕ)
struck_lines =
    text_of (happened (founds 5)) ∷ text_of (happened enrols) ∷ text_of strike ∷ []

-- the text of the journal of the founding
abbrev pub first_text : List ℕ
first_text = sealed_text first_line

-- how far these lines are read, with the bytes that are left, where they are known
abbrev pub behind_first : Option (List ℕ) → Place
behind_first left =
    record { taken = 1; held = Some (founds 5); seal = seal_of first_line; left = left }

abbrev pub behind_second : Option (List ℕ) → Place
behind_second left =
    record { taken = 2; held = Some enrols; seal = seal_of second_lines; left = left }

-- what is known of an office that was verified with it: so many events and lines
abbrev pub verified : (events lines : ℕ) → Verified
verified events lines = record { events = events; seal = seal_of first_line; lines = lines }

-- the seal of bodies, kept as that of a line
abbrev pub kept_seal : (line : ℕ) → List (List ℕ) → KeptSeal
kept_seal line bodies = record { line = line; seal = seal_of bodies }

-- all events are asked for, as text
abbrev pub all_asked : Asked
all_asked = record { team = None; profile = None; user = None; since = 0; json = false }

-- why it isn't read on, with the line
abbrev pub refused_at : (line : ℕ) → Why → Refused
refused_at line why = record { line = line; why = why }

-- ---- an office with a log

-- the office of this history, over a disk that is clean
pub record IsCleanOffice {S : Type 0} (g : Ghosts S) (h : History) (conn : Held S) : Type 0 where
  pub of : (meaning_over g).is_of h conn
  pub clean : (meaning_over g).is_clean conn

-- the tables of a connection show the founding, whatever history it is of
abbrev pub ShowsFounding : {S : Type 0} → Ghosts S → Held S → Type 0
ShowsFounding g conn =
    (h : History) → (meaning_over g).is_of h conn → Shows (tables_of h) (founds 5)

-- an open log whose file has just these bodies, over a disk that is clean
pub record HasBodies {D : Type 0} (g : DiskGhosts D) (log : SealedLog D g)
    (bodies : List (List ℕ)) : Type 0 where
  pub is_open : log.is_open ≡ true
  pub clean : IsTrue (g.is_clean log.disk)
  pub seen : g.seen log.disk ≡ sealed_text bodies

-- of the disk of a log so many calls have failed
abbrev pub HasMet : {D : Type 0} (g : DiskGhosts D) → SealedLog D g → ℕ → Type 0
HasMet g log faults = g.faults log.disk ≡ faults

-- a log whose disk isn't clean
abbrev pub IsUnclean : {D : Type 0} (g : DiskGhosts D) → SealedLog D g → Type 0
IsUnclean g log = IsTrue (g.is_clean log.disk) → ⊥

-- a log over a disk that is clean, of which a crash may leave no byte
pub record MayLeaveNothing {D : Type 0} (g : DiskGhosts D) (log : SealedLog D g) : Type 0 where
  pub clean : IsTrue (g.is_clean log.disk)
  pub nothing : g.may_leave log.disk []

-- an office with this log
abbrev pub with_log : {S D : Type 0} {g : DiskGhosts D} → Held S → SealedLog D g
    → (is_settled : Bool) → Journaled (Held S) (SealedLog D g)
with_log office log is_settled =
    record { office = office; journal = log; has_stray = false; is_settled = is_settled }
