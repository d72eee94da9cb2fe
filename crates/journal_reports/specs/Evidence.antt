-- The evidence of an event: the review sheet of a revision as it was just before that.
use Rattle.std.specs.Prelude.{◌≡◌, ◌++◌, ◌∷◌, [], ◌==◌, ℕ, List, Bool, true, false, is_none, All}
use Rattle.std.specs.Prelude.{Option, Some, None, IfSome, codes, decimal}
use Rattle.std.specs.Prelude.{option_map, unwrap_or}
use Rattle.sqlite.specs.Held.{Held}
use Rattle.sqlite.specs.Store.{Ghosts}
use Rattle.office_words.specs.declared.fault.Fault.{Fault}
use Rattle.office_words.specs.declared.name.ProfileName.{ProfileName}
use Rattle.office_policy.specs.History.{Event, History}
use Rattle.office_policy.specs.Lawful.{IsLawfulHistory}
use Rattle.office_policy.specs.Meaning.{Meaning}
use Rattle.office_policy.specs.Revisions.{issues, revision_of}
use Rattle.office_judging.specs.Sheets.{sheet_at}
use Rattle.review_office.specs.Looking.{IsMetBetween}
use Rattle.review_office.specs.Meant.{meaning_over}
use Rattle.journal.specs.Journal.{IsJournalOf}
use Rattle.journal.specs.Told.{GoesOn, Place, Tells, history_told, start}
use Rattle.journal_office.specs.Rebuilt.{HasReplayed, IsRefused}
use Rattle.journal_faults.specs.declared.no_evidence.NoEvidence.{NoEvidence}
use Rattle.journal_faults.specs.declared.no_evidence.NoEvidence.TheVariants as why
use Rattle.journal_reports.specs.Lines.{line_of}
use Rattle.office_policy.specs.Callers.{caller_of}

-- the event is the one that is asked for: that of the line, where one is given, and else the issue
-- of the revision
abbrev pub is_wanted : ProfileName → ℕ → (line : Option ℕ) → (placed : ℕ × Event) → Bool
is_wanted p n None placed = issues p n placed.1
is_wanted p n (Some line) placed = placed.0 == line

-- who asked for the event: of an issue, who issued
abbrev pub issuer_of : Event → List ℕ
issuer_of e = unwrap_or (caller_of e) []

-- who issued the revision, and the line of the journal that says so
abbrev pub issue_text : (placed : ℕ × Event) → List ℕ
issue_text placed =
    codes "issuer: " ++ issuer_of placed.1 ++ codes "\nline: " ++ decimal placed.0 ++ codes "\n"

-- what stands below the sheet: that of an issue; of the event of a line what `history` says of it,
-- after the history before it
abbrev pub ending_of : (line : Option ℕ) → History → (placed : ℕ × Event) → List ℕ
ending_of None h placed = issue_text placed
ending_of (Some line) h placed = line_of false h placed.0 placed.1

-- the sheet of the revision after the history before the event, where it is there, and this below it
abbrev pub evidence_of : ProfileName → ℕ → (line : Option ℕ) → History → (placed : ℕ × Event)
    → Option (List ℕ)
evidence_of p n line h placed =
    option_map (λ sheet. sheet ++ ending_of line h placed) (sheet_at p n h)

-- the word for that no event is asked for
abbrev pub none_of : (line : Option ℕ) → NoEvidence
none_of None = why.NotIssued
none_of (Some line) = why.NoEvent

-- of a journal with these bytes, where they are known, of this revision, and of an event
module _ (bytes : Option (List ℕ)) (p : ProfileName) (n : ℕ) (line : Option ℕ) where
  module _ {X : Type 0} (m : Meaning X) (left : X) where
    -- the journal tells a lawful history, of which the event that is asked for is the last; the text
    -- has the sheet after the history before it
    pub record IsEvidence (text : List ℕ) : Type 0 where
      pub before : List (ℕ × Event)
      pub placed : ℕ × Event
      pub behind : Place
      pub replayed : HasReplayed bytes m behind (before ++ placed ∷ []) left
      pub wanted : is_wanted p n line placed ≡ true
      pub says : m.is_clean left
          → Some text ≡ evidence_of p n line (history_told before) placed

    -- the event of this line is asked for, and the office of the events before it met this fault
    -- when it was looked at
    pub record IsUnseen (at : ℕ) (fault : Fault) : Type 0 where
      pub before : List (ℕ × Event)
      pub event : Event
      pub here : Place
      pub behind : Place
      pub old : X
      pub replayed : HasReplayed bytes m here before old
      pub told : GoesOn here behind ((at, event) ∷ [])
      pub wanted : is_wanted p n line (at, event) ≡ true
      pub met : m.is_clean left → IsMetBetween m old left fault

    -- the journal tells a lawful history, of which the event that is asked for is the last; the
    -- revision isn't there before it
    pub record IsWithoutRevision : Type 0 where
      pub before : List (ℕ × Event)
      pub placed : ℕ × Event
      pub behind : Place
      pub replayed : HasReplayed bytes m behind (before ++ placed ∷ []) left
      pub wanted : is_wanted p n line placed ≡ true
      pub none : m.is_clean left → revision_of (history_told before) p n ≡ None

    -- the journal is of a lawful history, and none of its events is asked for
    pub record IsNever : Type 0 where
      pub events : List (ℕ × Event)
      pub told : Tells (start bytes) events
      pub journal : IfSome bytes (λ text. IsJournalOf text (history_told events))
      pub lawful : m.is_clean left → IsLawfulHistory (history_told events)
      pub never : All (λ placed. is_wanted p n line placed ≡ false) events

  module _ {S : Type 0} (g : Ghosts S) (conn left : Held S) where
    -- why there is no evidence, and what is left of the connection
    abbrev pub IsNoEvidence : NoEvidence → Type 0
    IsNoEvidence (why.Refused refused) = IsRefused bytes g conn left refused.line refused.why
    IsNoEvidence (why.Unseen at fault) = IsUnseen (meaning_over g) left at fault
    IsNoEvidence why.NotIssued = (line ≡ None) × IsNever (meaning_over g) left
    IsNoEvidence why.NoEvent = (is_none line ≡ false) × IsNever (meaning_over g) left
    IsNoEvidence why.NoRevision = IsWithoutRevision (meaning_over g) left
    IsNoEvidence (why.NoMemory _) = Unit {0}
