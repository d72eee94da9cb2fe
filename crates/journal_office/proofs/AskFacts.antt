-- Looking whether tables show the newest events of a journal.
use Rattle.std.proofs.Common.{inl, inr, ◌≡◌, ◌≤◌, ◌⊎◌, true, false, Option, Some, None, Result, Ok, Err, sym, subst, arith}
use Rattle.std.specs.Prelude.{⊤, Box, is_some}
use Rattle.std.specs.declared.alloc.Global.{Global}
use Rattle.office_words.specs.declared.fault.Fault.{Fault}
use Rattle.office_words.specs.declared.fault.Fault.TheVariants as faults
use Rattle.office_words.specs.Tables.{Tables}
use Rattle.office_policy.specs.History.{Event}
use Rattle.office_policy.specs.Handled.{HasRisen}
use Rattle.office_policy.specs.Judging.{LeavesAll}
use Rattle.office_policy.specs.Meaning.{Meaning, no_entry}
use Rattle.office_policy.specs.ShowsEvent.{Shows}
use Rattle.office_policy.specs.TablesOf.{tables_of}
use Rattle.office_policy.specs.declared.event.Event as values
use Rattle.office_policy.proofs.SurvivalFacts.{closes_by_fault, survives_on}
use Rattle.review_office.specs.Looking.{IsMetBetween}
use Rattle.journal.specs.Kept.{with_stood}
use Rattle.journal.specs.declared.writers.Writers.{Writers as TheWriters}
use Rattle.journal.proofs.WriterFacts.{put_shown, writer_shown}
use Rattle.journal.specs.Writers.{ShowsIf, ShowsOne, ShowsWriters, Writers, boxed_meant, writers_meant}
use Rattle.journal_office.specs.declared.mending.Last.{Last}
use Rattle.journal_office.specs.declared.mending.Last.TheVariants as last
use Rattle.journal_faults.specs.declared.not_reopened.NotReopened.{NotReopened}
use Rattle.journal_faults.specs.declared.not_reopened.NotReopened.TheVariants.{Unsealed, NotALine, Changed, OtherJournal, Office, Log, NoMemory}
use Rattle.journal_office.specs.Mending.{Asks, Holds, IsLastOf, IsMet, LooksAt, LooksFor, Stays}

-- ---- one question after another

left_on : {X : Type 0} (m : Meaning X) (old mid new : X) → LeavesAll m old mid → LeavesAll m mid new → LeavesAll m old new
left_on m old mid new first then = record {
  survives = survives_on m old mid new first.survives then.survives;
  office = λ h of. then.office h (first.office h of);
  kept = λ clean. m.keeps_on old mid new (first.kept (then.survives.clean clean)) (then.kept clean);
  crash = λ clean left may. first.crash (then.survives.clean clean) left (then.crash clean left may);
  adds = λ clean. m.adds_on no_entry old mid new (first.adds (then.survives.clean clean)) (then.adds clean);
  strays = λ e stray. first.strays e (then.strays e stray);
}

met_on : {X : Type 0} (m : Meaning X) (old mid new : X) (fault : Fault) → m.faults old ≤ m.faults mid → (m.is_open old → m.is_open mid ⊎ HasRisen (m.faults old) (m.faults mid)) → m.faults mid ≤ m.faults new → IsMetBetween m mid new fault → IsMetBetween m old new fault
met_on m old mid new (faults.NoMemory _) counts closes rest met = tt
met_on m old mid new faults.Disk counts closes rest met = λ is_open. elim (closes is_open) [
  | inl still ↦ let risen = met still in omega (arith, counts, risen)
  | inr risen ↦ omega (arith, risen, rest)
]
met_on m old mid new faults.Full counts closes rest met = omega (arith, counts, met)
met_on m old mid new faults.NotAnOffice counts closes rest met = met

module _ {X : Type 0} (m : Meaning X) (old mid new : X) (first : LeavesAll m old mid) (then : LeavesAll m mid new) where
  pub leaves_both : LeavesAll m old new
  leaves_both = left_on m old mid new first then

  holds_on : (P : Tables → Type 0) → Holds m old mid P → Holds m old new P
  holds_on P holds h of clean = holds h of (then.survives.clean clean)

  holds_from : (P : Tables → Type 0) → Holds m mid new P → Holds m old new P
  holds_from P holds h of clean = holds h (first.office h of) clean

  stays_on : Stays m old mid → Stays m mid new → Stays m old new
  stays_on one two h was clean = two h (one h was (then.survives.clean clean)) clean

  met_from : (fault : Fault) → IsMet m mid new fault → IsMet m old new fault
  met_from fault met h of clean =
      let before = then.survives.clean clean in
      met_on m old mid new fault first.survives.counts (closes_by_fault m old mid first.survives first.strays before) then.survives.counts (met h (first.office h of) clean)

  -- both hold, or what is looked for next doesn't
  pub looks_then : (P Q : Tables → Type 0) (result : Result ⊤ NotReopened) → LooksFor m old mid P (Ok tt) → LooksFor m mid new Q result → LooksFor m old new (λ t. P t × Q t) result
  looks_then P Q (Ok _) one two = (λ h of clean. (holds_on P one.0 h of clean, holds_from Q two.0 h of clean), stays_on one.1 two.1)
  looks_then P Q (Err OtherJournal) one two = λ h of clean both. two h (first.office h of) clean both.1
  looks_then P Q (Err (Office fault)) one two = met_from fault two
  looks_then P Q (Err Unsealed) one two = two
  looks_then P Q (Err NotALine) one two = two
  looks_then P Q (Err (Changed at)) one two = two
  looks_then P Q (Err Log) one two = two
  looks_then P Q (Err (NoMemory _)) one two = two

  last_on : (w after : Writers) (event : Option Event) (answer : Last) → IsLastOf m old mid w after event answer → IsLastOf m old new w after event answer
  last_on w after (Some e) last.Shown found = (holds_on (λ t. Shows t e) found.0, found.1)
  last_on w after (Some e) last.Unshown found = (holds_on (λ t. Shows t e → ⊥) found.0, found.1)
  last_on w after (Some e) last.Settled found = found
  last_on w after None last.Shown found = found
  last_on w after None last.Unshown found = found
  last_on w after None last.Settled found = found

  module _ (w after : Writers) (event : Option Event) (answer : Last) (looks : LooksAt m old mid w after event (Ok answer)) where
    pub answered : LooksFor m mid new (λ t. ShowsWriters t after) (Ok tt) → Asks m old new w event (Ok answer)
    answered all = record {
      after = after;
      last = last_on w after event answer looks.0;
      shows = holds_from (λ t. ShowsWriters t after) all.0;
      stays = stays_on looks.1 all.1;
    }

    -- the tables don't show them
    other : (event : Option Event) (answer : Last) → IsLastOf m old mid w after event answer → Holds m old new (λ t. ShowsWriters t after → ⊥)
        → Holds m old new (λ t. ShowsWriters t w → ⊥) × Holds m old new (λ t. ShowsWriters t (with_stood event w) → ⊥)
    other (Some e) last.Shown found none = (
      λ h of clean all. none h of clean (subst (ShowsWriters (tables_of h)) (sym found.1) (put_shown (tables_of h) e w all (found.0 h of (then.survives.clean clean)))),
      λ h of clean all. none h of clean (subst (ShowsWriters (tables_of h)) (sym found.1) all),
    )
    other (Some e) last.Unshown found none = (
      λ h of clean all. none h of clean (subst (ShowsWriters (tables_of h)) (sym found.1) all),
      λ h of clean all. found.0 h of (then.survives.clean clean) (writer_shown (tables_of h) e w all),
    )
    other (Some e) last.Settled found none = absurd found
    other None last.Shown found none = absurd found
    other None last.Unshown found none = absurd found
    other None last.Settled found none = (
      λ h of clean all. none h of clean (subst (ShowsWriters (tables_of h)) (sym found) all),
      λ h of clean all. none h of clean (subst (ShowsWriters (tables_of h)) (sym found) all),
    )

    pub not_answered : (why : NotReopened) → LooksFor m mid new (λ t. ShowsWriters t after) (Err why) → Asks m old new w event (Err why)
    not_answered OtherJournal none = other event answer looks.0 (holds_from (λ t. ShowsWriters t after → ⊥) none)
    not_answered (Office fault) met = met_from fault met
    not_answered Unsealed never = never
    not_answered NotALine never = never
    not_answered (Changed at) never = never
    not_answered Log never = never
    not_answered (NoMemory _) never = tt

-- what isn't so, or wasn't asked for, isn't where more is
pub looks_wider : {X : Type 0} (m : Meaning X) (old new : X) (P Q : Tables → Type 0) (why : NotReopened) → ((t : Tables) → Q t → P t) → LooksFor m old new P (Err why) → LooksFor m old new Q (Err why)
looks_wider m old new P Q OtherJournal less none = λ h of clean more. none h of clean (less (tables_of h) more)
looks_wider m old new P Q (Office fault) less met = met
looks_wider m old new P Q Unsealed less never = never
looks_wider m old new P Q NotALine less never = never
looks_wider m old new P Q (Changed at) less never = never
looks_wider m old new P Q Log less never = never
looks_wider m old new P Q (NoMemory _) less never = never

-- and what is so is
pub looks_as : {X : Type 0} (m : Meaning X) (old new : X) (P Q : Tables → Type 0) (result : Result ⊤ NotReopened) → ((t : Tables) → P t → Q t) → ((t : Tables) → Q t → P t)
    → LooksFor m old new P result → LooksFor m old new Q result
looks_as m old new P Q (Ok _) more less is = (λ h of clean. more (tables_of h) (is.0 h of clean), is.1)
looks_as m old new P Q (Err why) more less is = looks_wider m old new P Q why less is

-- the event wasn't asked for
pub not_looked : {X : Type 0} (m : Meaning X) (old new : X) (w after : Writers) (event : Option Event) (why : NotReopened) → LooksAt m old new w after event (Err why) → Asks m old new w event (Err why)
not_looked m old new w after event OtherJournal never = absurd never
not_looked m old new w after event (Office fault) met = met
not_looked m old new w after event Unsealed never = never
not_looked m old new w after event NotALine never = never
not_looked m old new w after event (Changed at) never = never
not_looked m old new w after event Log never = never
not_looked m old new w after event (NoMemory _) never = tt

-- ---- all writers

module _ (w : TheWriters) (t : Tables) where
  abbrev pub Four : Type 0
  Four = (ShowsIf t (boxed_meant w.users) × ShowsIf t (boxed_meant w.revisions)) × (ShowsIf t (boxed_meant w.votes) × ShowsIf t (boxed_meant w.baselines))

  abbrev pub Five : Type 0
  Five = Four × ShowsIf t (boxed_meant w.holds)

  user_if : (user : Option (Box values.Event Global)) → ShowsOne t (boxed_meant user) → ShowsIf t (boxed_meant user)
  user_if None shows = absurd shows
  user_if (Some b) shows = shows

  user_one : (user : Option (Box values.Event Global)) → is_some user ≡ true → ShowsIf t (boxed_meant user) → ShowsOne t (boxed_meant user)
  user_one None is shows = absurd cc
  user_one (Some b) is shows = shows

  no_one : (user : Option (Box values.Event Global)) → is_some user ≡ false → ShowsOne t (boxed_meant user) → ⊥
  no_one None is shows = shows
  no_one (Some b) is shows = cc

  pub in_order : ShowsWriters t (writers_meant w) → Five
  in_order all = (((user_if w.users all.users, all.revisions), (all.votes, all.baselines)), all.holds)

  pub are_all : is_some w.users ≡ true → Five → ShowsWriters t (writers_meant w)
  are_all some shows =
      record { users = user_one w.users some shows.0.0.0; revisions = shows.0.0.1; votes = shows.0.1.0; baselines = shows.0.1.1; holds = shows.1 }

  pub no_user : is_some w.users ≡ false → ShowsWriters t (writers_meant w) → ⊥
  no_user none all = no_one w.users none all.users
