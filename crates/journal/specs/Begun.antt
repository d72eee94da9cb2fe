-- What a crash may leave of the journal of an office.
use Rattle.std.specs.Prelude.{◌⊎◌, ℕ, List, [], ◌∷◌, ◌++◌, Option, Some, None}
use Rattle.office_policy.specs.History.{Event, History}
use Rattle.office_policy.specs.Lawful.{IsAllowed}
use Rattle.office_policy.specs.EventForms.{HasForms}
use Rattle.journal.specs.Journal.{IsJournalOf, Says}
use Rattle.journal.specs.Lines.{happened, strike, done, text_of}
use Rattle.journal.specs.Writing.{IsLeftIn}

-- the bodies, and behind them that of an event's line
abbrev pub with_event : List (List ℕ) → Event → List (List ℕ)
with_event bodies e = bodies ++ text_of (happened e) ∷ []

-- the bodies, and behind them those of an event's line and of the one that strikes it out
abbrev pub with_struck : List (List ℕ) → Event → List (List ℕ)
with_struck bodies e = with_event bodies e ++ text_of strike ∷ []

-- the body of the line that says that the last event is carried out, where it has this number; or
-- none
abbrev pub done_bodies : Option ℕ → List (List ℕ)
done_bodies None = []
done_bodies (Some number) = text_of (done number) ∷ []

-- the journal of the history, and behind it what is left of the line of this event, which the policy
-- allows then, and of the one before it which says that the last event is carried out, if there is
-- one; or these lines too, and what is left of the one that strikes the event out
pub record IsBegun (h : History) (event : Event) (file : List ℕ) : Type 0 where
  pub before : List (List ℕ)
  pub says : Says before h
  pub settling : Option ℕ
  pub settled : Says (before ++ done_bodies settling) h
  pub allowed : IsAllowed h event
  pub forms : HasForms event
  pub left : IsLeftIn before (done_bodies settling) (text_of (happened event)) file
      ⊎ IsLeftIn (with_event (before ++ done_bodies settling) event) [] (text_of strike) file

-- the journal of the history, and behind it what is left of the line that says that its last event is
-- carried out
pub record IsEnding (h : History) (file : List ℕ) : Type 0 where
  pub before : List (List ℕ)
  pub says : Says before h
  pub number : ℕ
  pub with_done : Says (before ++ text_of (done number) ∷ []) h
  pub left : IsLeftIn before [] (text_of (done number)) file

-- the journal of the history, or it with one event more that was begun, or with its end
abbrev pub IsLeftOf : History → List ℕ → Type 0
IsLeftOf h file =
    IsJournalOf file h ⊎ ((event : Event) × IsBegun h event file) ⊎ IsEnding h file
