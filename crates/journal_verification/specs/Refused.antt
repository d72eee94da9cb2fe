-- The line by which no office is built anew of a journal, and why.
use Rattle.std.specs.Prelude.{◌≡◌, ℕ, List, [], ◌∷◌, ◌++◌, Option, None}
use Rattle.sqlite.specs.Held.{Held, state}
use Rattle.sqlite.specs.Steps.{IsEmpty}
use Rattle.sqlite.specs.Store.{Ghosts}
use Rattle.office_store.specs.Shown.{IsIdle}
use Rattle.office_policy.specs.Callers.{caller_of}
use Rattle.office_policy.specs.History.{Event, History}
use Rattle.office_policy.specs.Lawful.{IsAllowed, IsLawfulHistory}
use Rattle.review_office.specs.declared.replay.Unreplayed.TheVariants as causes
use Rattle.review_office.specs.Replayed.{HasOtherText, IsDeniedBy}
use Rattle.journal.specs.Told.{GoesOn, Place, history_told, start}
use Rattle.journal_faults.specs.declared.refused.Refused.{Refused}
use Rattle.journal_faults.specs.declared.refused.Why.{Why}
use Rattle.journal_faults.specs.declared.refused.Why.TheVariants as why
use Rattle.journal_office.specs.Rebuilt.{IsNotFounded, IsRefused, IsUnread, Refutes}

-- of a journal with these bytes, where they are known
module _ (bytes : Option (List ℕ)) where
  -- the events that stand before this line are a lawful history, after which that of this line isn't
  -- allowed, for this reason
  pub record IsFirstUnlawful (line : ℕ) (Because : Event → History → Type 0) : Type 0 where
    pub before : List (ℕ × Event)
    pub event : Event
    pub after : Place
    pub told : GoesOn (start bytes) after (before ++ (line, event) ∷ [])
    pub lawful : IsLawfulHistory (history_told before)
    pub never : IsAllowed (history_told before) event → ⊥
    pub because : Because event (history_told before)

  -- The line can't be read behind those before it, whose events are lawful; no event stands, or the
  -- first one, of this line, is no founding; or the event of the line isn't allowed, by this rule
  -- first. Of a fault nothing is said.
  abbrev pub IsWrongAt : ℕ → Why → Type 0
  IsWrongAt line (why.Unread fault) = IsUnread bytes (Unit {0}) line fault
  IsWrongAt line why.NotFounded = IsNotFounded bytes line
  IsWrongAt line (why.Unfounded fault) = Unit {0}
  IsWrongAt line (why.Unreplayed (causes.Denied denial)) =
      IsFirstUnlawful line (λ e h. IsDeniedBy e h denial)
  IsWrongAt line (why.Unreplayed causes.Founding) =
      IsFirstUnlawful line (λ e h. caller_of e ≡ None)
  IsWrongAt line (why.Unreplayed causes.OtherText) = IsFirstUnlawful line HasOtherText
  IsWrongAt line (why.Unreplayed (causes.Fault fault)) = Unit {0}

  -- over a connection that has nothing yet no office is built anew of the journal, from this line on
  -- and for this reason. No lawful history has that journal, unless there is a fault
  pub record IsNotRebuilt {S : Type 0} (g : Ghosts S) (refusal : Refused) : Type 0 where
    pub conn : Held S
    pub idle : IsIdle (state g conn)
    pub empty : IsEmpty (state g conn)
    pub left : Held S
    pub refused : IsRefused bytes g conn left refusal.line refusal.why
    pub wrong : IsWrongAt refusal.line refusal.why
    pub unlawful : Refutes bytes (Unit {0}) refusal.why
