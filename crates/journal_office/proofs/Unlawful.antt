-- A journal that no office is built of is of no lawful history.
use Rattle.std.proofs.Common.{◌≡◌, ◌∙◌, ℕ, List, [], ◌∷◌, ◌++◌, Option, Some, None, inl, inr, refl, ap, subst}
use Rattle.sqlite.specs.Held.{Held, state}
use Rattle.sqlite.specs.State.{HasCleanDisk}
use Rattle.sqlite.specs.Store.{Ghosts}
use Rattle.office_policy.specs.History.{Event, History}
use Rattle.office_policy.specs.Lawful.{IsAllowed, IsLawfulHistory}
use Rattle.office_policy.specs.Meaning.{Meaning}
use Rattle.review_office.specs.declared.replay.Unreplayed.TheVariants as causes
use Rattle.review_office.specs.Meant.{meaning_over}
use Rattle.review_office.specs.Replayed.{IsRefused as IsDenied}
use Rattle.sealed_log.specs.Input.{IsOutside}
use Rattle.sealed_log.specs.declared.unreadable.Unreadable.{Unreadable}
use Rattle.sealed_log.specs.declared.unreadable.Unreadable.TheVariants as unreadable
use Rattle.journal.specs.Journal.{IsJournalOf}
use Rattle.journal.specs.Told.{GoesOn, Place, history_told, start}
use Rattle.journal.proofs.FaultFacts.{no_fault}
use Rattle.journal.proofs.HistoryFacts.{journal_tells, journal_told}
use Rattle.journal.proofs.JournalFacts.{one_history}
use Rattle.journal.proofs.ToldFacts.{leaves_stops, stays}
use Rattle.journal_faults.specs.declared.refused.Why.{Why}
use Rattle.journal_faults.specs.declared.refused.Why.TheVariants as why
use Rattle.journal_office.specs.Rebuilt.{HasReplayed, IsNotFounded, IsRefused, IsUnlawful, IsUnread, Refutes}
use Rattle.journal_office.proofs.Replays.{goes_then, told_more, told_on}

-- what stands below in a lawful history is one
lawful_below : (g h : History) (e : Event) → IsLawfulHistory (g ++ e ∷ h) → IsLawfulHistory (e ∷ h)
lawful_below [] h e lawful = lawful
lawful_below (f ∷ []) h e lawful = lawful.1
lawful_below (f ∷ f2 ∷ g) h e lawful = lawful_below (f2 ∷ g) h e lawful.1

allowed_last : (h : History) (e : Event) → IsLawfulHistory h → IsLawfulHistory (e ∷ h) → IsAllowed h e
allowed_last [] e before lawful = absurd before
allowed_last (f ∷ h) e before lawful = lawful.0

-- a history that the journal is of has in it what is told up to a place
record HasBelow (h below : History) : Type 0 where
  onto : History
  parts : h ≡ onto ++ below

below : (text : List ℕ) (after : Place) (es : List (ℕ × Event)) (h : History) → GoesOn (start (Some text)) after es → IsJournalOf text h → HasBelow h (history_told es)
below text after es h on is =
    let all = journal_tells text h is in
    let then = on.only text all.0 refl all.1 in
    record { onto = history_told then.rest; parts = all.2 ∙ ap history_told then.parts ∙ told_on es then.rest }

-- the line of a fault of its own
of_line : (bytes : Option (List ℕ)) (clean : Type 0) (line : ℕ) (fault : Unreadable) → IsUnread bytes clean line fault → (IsOutside fault → ⊥) → IsUnlawful bytes
of_line None clean line fault unread own = tt
of_line (Some text) clean line fault unread own = λ h lawful is.
    let all = journal_tells text h is in
    let last = unread.last in
    let stops = unread.told.stops last.taken fault (leaves_stops last last fault (record { last = last; on = stays last; cannot = unread.cannot; taken = refl; held = refl })) in
    own (no_fault (start (Some text)) last.taken fault all.0 stops all.1)

not_founded : (bytes : Option (List ℕ)) (line : ℕ) → IsNotFounded bytes line → IsUnlawful bytes
not_founded None line none = tt
not_founded (Some text) line (inl none) = λ h lawful is.
    subst IsLawfulHistory (one_history text h [] is (journal_told text [] none.0)) lawful
not_founded (Some text) line (inr first) = λ h lawful is.
    let all = below text first.after ((line, first.event) ∷ []) h first.told is in
    first.other (lawful_below all.onto [] first.event (subst IsLawfulHistory all.parts lawful))

-- the event of this line isn't allowed
not_allowed : (bytes : Option (List ℕ)) (here after : Place) (before : List (ℕ × Event)) (line : ℕ) (e : Event) → GoesOn (start bytes) here before → GoesOn here after ((line, e) ∷ [])
    → IsLawfulHistory (history_told before) → (IsAllowed (history_told before) e → ⊥) → IsUnlawful bytes
not_allowed None here after before line e first then lawful_before never = tt
not_allowed (Some text) here after before line e first then lawful_before never = λ h lawful is.
    let all = below text after (before ++ (line, e) ∷ []) h (goes_then (start (Some text)) here after before ((line, e) ∷ []) first then) is in
    let parts = all.parts ∙ ap (λ (l : History). all.onto ++ l) (told_more before line e) in
    never (allowed_last (history_told before) e lawful_before (lawful_below all.onto (history_told before) e (subst IsLawfulHistory parts lawful)))

module _ {X : Type 0} (m : Meaning X) where
  denied : (bytes : Option (List ℕ)) (here after : Place) (before : List (ℕ × Event)) (line : ℕ) (e : Event) (old left : X) (Why : History → Type 0)
      → HasReplayed bytes m here before old → GoesOn here after ((line, e) ∷ []) → IsDenied m old left e Why → m.is_clean left → IsUnlawful bytes
  denied bytes here after before line e old left Why first then refused clean =
      let was = refused.leaves.survives.clean clean in
      not_allowed bytes here after before line e first.told then (first.lawful was) (refused.never (history_told before) (first.stands was).is_of clean)

pub refutes : {S : Type 0} (g : Ghosts S) (bytes : Option (List ℕ)) (conn left : Held S) (line : ℕ) (w : Why) → IsRefused bytes g conn left line w
    → Refutes bytes (HasCleanDisk (state g left)) w
refutes g bytes conn left line (why.Unread unreadable.NotALine) is = of_line bytes (HasCleanDisk (state g left)) line unreadable.NotALine is (λ x. x)
refutes g bytes conn left line (why.Unread unreadable.NoEventBefore) is = of_line bytes (HasCleanDisk (state g left)) line unreadable.NoEventBefore is (λ x. x)
refutes g bytes conn left line (why.Unread unreadable.Unsealed) is = of_line bytes (HasCleanDisk (state g left)) line unreadable.Unsealed is (λ x. x)
refutes g bytes conn left line (why.Unread unreadable.TornLine) is = of_line bytes (HasCleanDisk (state g left)) line unreadable.TornLine is (λ x. x)
refutes g bytes conn left line (why.Unread unreadable.Read) is = tt
refutes g bytes conn left line (why.Unread (unreadable.NoMemory _)) is = tt
refutes g bytes conn left line why.NotFounded is = not_founded bytes line is
refutes g bytes conn left line (why.Unfounded fault) is = tt
refutes g bytes conn left line (why.Unreplayed (causes.Denied denial)) is =
    denied (meaning_over g) bytes is.here is.after is.before line is.event is.old left _ is.replayed is.told is.refused
refutes g bytes conn left line (why.Unreplayed causes.Founding) is =
    denied (meaning_over g) bytes is.here is.after is.before line is.event is.old left _ is.replayed is.told is.refused
refutes g bytes conn left line (why.Unreplayed causes.OtherText) is =
    denied (meaning_over g) bytes is.here is.after is.before line is.event is.old left _ is.replayed is.told is.refused
refutes g bytes conn left line (why.Unreplayed (causes.Fault fault)) is = tt
