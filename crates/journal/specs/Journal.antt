-- What a journal says: its lines, the oldest first, and the events of them that stand.
use Rattle.std.specs.Prelude.{◌≡◌, ◌+◌, ◌==◌, ℕ, List, [], ◌∷◌, ◌++◌, Bool, true, false, Option}
use Rattle.std.specs.Prelude.{Some, None, option_and_then, map, All}
use Rattle.sealed_log.specs.Sealed.{IsBody, sealed_text, seal_of}
use Rattle.office_policy.specs.History.{Event, History}
use Rattle.office_policy.specs.Runs.{with_event}
use Rattle.office_policy.specs.EventForms.{HasForms}
use Rattle.journal.specs.Forms.{IsFormed}
use Rattle.journal.specs.Lines.{Line, happened, strike, done, text_of}

-- the event before stands from then on, where the number is its line's
abbrev pub settled_if : Bool → Event → Option (Option Event × Option Event)
settled_if true e = Some (Some e, None)
settled_if false e = None

-- an event is held back until the next line, which may strike it out or say that it is carried out:
-- the event that stands by the next line, which comes behind so many, if one does, and the one that
-- is held back then; none where no event is struck out or carried out, or one of another number is
abbrev pub taken : ℕ → Option Event → Line → Option (Option Event × Option Event)
taken before held (happened e) = Some (held, Some e)
taken before (Some e) strike = Some (None, None)
taken before None strike = None
taken before (Some e) (done n) = settled_if (n == before) e
taken before None (done n) = None

-- the events that stand after these lines, behind so many, onto those before and the one that is held
-- back
abbrev pub history_from : ℕ → History → Option Event → List Line → Option History
history_from before h held [] = Some (with_event held h)
history_from before h held (line ∷ lines) =
    option_and_then
    (λ t. history_from (before + 1) (with_event t.0 h) t.1 lines)
    (taken before held line)

-- the events that stand, the newest first; none where a line can't be taken
abbrev pub history_in : List Line → Option History
history_in lines = history_from 0 [] None lines

-- a line that can stand in a journal
pub record IsEntry (line : Line) : Type 0 where
  pub formed : IsFormed line
  pub body : IsBody (text_of line)

-- the bodies are those of such lines, and these are their events that stand
pub record Says (bodies : List (List ℕ)) (h : History) : Type 0 where
  pub lines : List Line
  pub entries : All IsEntry lines
  pub are : bodies ≡ map text_of lines
  pub history : history_in lines ≡ Some h

-- the text is that of such bodies, each sealed
pub record IsJournalOf (text : List ℕ) (h : History) : Type 0 where
  pub bodies : List (List ℕ)
  pub is : text ≡ sealed_text bodies
  pub says : Says bodies h

-- the text is the journal of the history, and has this seal
pub record IsSealedJournal (text : List ℕ) (h : History) (seal : List ℕ) : Type 0 where
  pub journal : IsJournalOf text h
  pub sealed : seal ≡ seal_of journal.bodies

-- the last body is that of the line of an event
pub record EndsWithEvent (bodies : List (List ℕ)) : Type 0 where
  pub before : List (List ℕ)
  pub event : Event
  pub forms : HasForms event
  pub is : bodies ≡ before ++ text_of (happened event) ∷ []
