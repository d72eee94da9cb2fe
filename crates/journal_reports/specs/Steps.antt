-- What is done with the events of a journal, one after the other.
use Rattle.std.specs.Prelude.{◌≡◌, ◌∷◌, [], ℕ, List, All, false, is_none, Option, None, Result, Ok}
use Rattle.std.specs.Prelude.{Err}
use Rattle.office_words.specs.declared.fault.Fault.{Fault}
use Rattle.office_words.specs.declared.name.ProfileName.{ProfileName}
use Rattle.office_policy.specs.History.{Event, History}
use Rattle.office_policy.specs.Meaning.{Meaning}
use Rattle.review_office.specs.Looking.{IsMetBetween}
use Rattle.journal.specs.Told.{Place, history_told}
use Rattle.journal_office.specs.Rebuilt.{HasReplayed}
use Rattle.journal_office.specs.Steps.{IsLeftBehind}
use Rattle.journal_faults.specs.declared.no_evidence.NoEvidence.{NoEvidence}
use Rattle.journal_faults.specs.declared.no_evidence.NoEvidence.TheVariants as why
use Rattle.journal_reports.specs.Evidence.{IsEvidence, IsNever, IsUnseen, IsWithoutRevision}
use Rattle.journal_reports.specs.Evidence.{is_wanted}

-- ---- a look before an event

module _ (bytes : Option (List ℕ)) {X : Type 0} (m : Meaning X) where
  module _ (here : Place) (es : List (ℕ × Event)) (old new : X) where
    -- the office is still that of these events, and this is what was looked for
    pub record HasSeen {A : Type 0} (look : History → A) (found : A) : Type 0 where
      pub clean : m.is_clean new → m.is_clean old
      pub replayed : HasReplayed bytes m here es new
      pub says : m.is_clean new → found ≡ look (history_told es)

    -- an office of these events met this fault
    pub record HasNotSeen (fault : Fault) : Type 0 where
      pub seen : X
      pub replayed : HasReplayed bytes m here es seen
      pub met : m.is_clean new → IsMetBetween m seen new fault

    -- why nothing was found for the event of this line
    abbrev pub LooksInVain : (line : ℕ) → NoEvidence → Type 0
    LooksInVain line (why.Refused refused) = ⊥
    LooksInVain line (why.Unseen at fault) = (at ≡ line) × HasNotSeen fault
    LooksInVain line why.NotIssued = ⊥
    LooksInVain line why.NoEvent = ⊥
    LooksInVain line why.NoRevision = ⊥
    LooksInVain line (why.NoMemory _) = Unit {0}

    abbrev pub Looks : {A : Type 0} → (line : ℕ) → (History → A) → Result A NoEvidence → Type 0
    Looks line look (Ok found) = HasSeen look found
    Looks line look (Err why) = LooksInVain line why

-- ---- all events

-- none of these events is asked for
abbrev pub NoneWanted : ProfileName → ℕ → Option ℕ → List (ℕ × Event) → Type 0
NoneWanted p n line es = All (λ placed. is_wanted p n line placed ≡ false) es

module _ (bytes : Option (List ℕ)) (p : ProfileName) (n : ℕ) (line : Option ℕ) {X : Type 0}
    (m : Meaning X) where
  -- why there is no evidence of the event
  abbrev pub IsInVain : X → NoEvidence → Type 0
  IsInVain left (why.Refused refused) = IsLeftBehind m bytes left refused.line refused.why
  IsInVain left (why.Unseen at fault) = IsUnseen bytes p n line m left at fault
  IsInVain left why.NotIssued = (line ≡ None) × IsNever bytes p n line m left
  IsInVain left why.NoEvent = (is_none line ≡ false) × IsNever bytes p n line m left
  IsInVain left why.NoRevision = IsWithoutRevision bytes p n line m left
  IsInVain left (why.NoMemory _) = Unit {0}

  abbrev pub Searches : X → Result (List ℕ) NoEvidence → Type 0
  Searches left (Ok text) = IsEvidence bytes p n line m left text
  Searches left (Err why) = IsInVain left why
