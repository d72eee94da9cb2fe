-- The evidence of an event, looked for event by event.
use Rattle.std.proofs.Common.{◌≡◌, ◌∙◌, ◌++◌, ℕ, List, [], ◌∷◌, append-nil, true, false, Option, Some, None, Result, Ok, Err, refl, sym, ap, subst}
use Rattle.std.proofs.lemmas.List.Elements.{All-cons, All-nil}
use Rattle.std.specs.Prelude.{IfErr, IfOk, IfSome, is_none, option_map}
use Rattle.sqlite.specs.Held.{Held}
use Rattle.sqlite.specs.Store.{Ghosts}
use Rattle.office_words.specs.declared.fault.Fault.{Fault}
use Rattle.office_words.specs.declared.name.ProfileName.{ProfileName}
use Rattle.office_words.specs.declared.row.RevisionRow.{RevisionRow}
use Rattle.office_policy.specs.History.{Event, History}
use Rattle.office_policy.specs.Meaning.{Meaning}
use Rattle.office_policy.specs.Revisions.{revision_of}
use Rattle.office_judging.specs.Sheets.{sheet_at, sheet_text_of}
use Rattle.review_office.specs.Looking.{HasLookedBack}
use Rattle.review_office.specs.Meant.{meaning_over}
use Rattle.review_office.specs.Replayed.{HasHappened}
use Rattle.journal.specs.Journal.{IsJournalOf}
use Rattle.journal.specs.Told.{Ends, GoesOn, Place, Tells, history_told, start}
use Rattle.journal.proofs.HistoryFacts.{journal_told}
use Rattle.journal_faults.specs.declared.refused.Refused.{Refused}
use Rattle.journal_office.specs.Rebuilt.{HasReplayed}
use Rattle.journal_office.specs.Steps.{IsKeptOut}
use Rattle.journal_office.proofs.Refusals.{kept_out, none_behind}
use Rattle.journal_office.proofs.Replays.{more}
use Rattle.journal_faults.specs.declared.no_evidence.NoEvidence.{NoEvidence}
use Rattle.journal_faults.specs.declared.no_evidence.NoEvidence.TheVariants as why
use Rattle.journal_reports.specs.Evidence.{IsNever, IsNoEvidence, ending_of, evidence_of, is_wanted, issue_text, none_of}
use Rattle.journal_reports.specs.Lines.{line_of, text_of}
use Rattle.journal_reports.specs.Steps.{HasSeen, IsInVain, Looks, LooksInVain, NoneWanted, Searches}
use Rattle.journal_reports.specs.Writing.{HasLookedUp, HasMet}
use Rattle.journal_reports.proofs.Looks.{looked_on}
use Rattle.no_memory.specs.Witness.{witness}

module _ {X : Type 0} (m : Meaning X) (bytes : Option (List ℕ)) where
  -- ---- what stands below a sheet

  module _ (here : Place) (es : List (ℕ × Event)) (old new : X) (line : ℕ) where
    -- there was no memory
    pub no_memory : (none : NoEvidence) → none ≡ why.NoMemory witness → LooksInVain bytes m here es old new line none
    no_memory none is = subst (LooksInVain bytes m here es old new line) (sym is) tt

    -- the line of the event
    pub line_seen : (e : Event) (found : Option RevisionRow) (text : List ℕ) → HasLookedUp bytes m here es old new e found → text ≡ text_of line e found
        → HasSeen bytes m here es old new (λ h. line_of false h line e) text
    line_seen e found text looked is = record {
      clean = looked.clean;
      replayed = looked.replayed;
      says = λ clean. is ∙ ap (text_of line e) (looked.row clean);
    }

    -- the office met a fault
    pub line_unseen : (fault : Fault) → HasReplayed bytes m here es old → HasMet bytes m here es old new fault
        → LooksInVain bytes m here es old new line (why.Unseen line fault)
    line_unseen fault before looked = (refl, record { seen = old; replayed = before; met = looked.met })

  -- of an issue nothing is looked up
  pub issue_seen : (here : Place) (es : List (ℕ × Event)) (office : X) (placed : ℕ × Event) (result : Result (List ℕ) NoEvidence) → HasReplayed bytes m here es office
      → IfOk result (λ text. text ≡ issue_text placed) → IfErr result (λ none. none ≡ why.NoMemory witness) → Looks bytes m here es office office placed.0 (λ h. ending_of None h placed) result
  issue_seen here es office placed (Ok text) before is none = record { clean = λ clean. clean; replayed = before; says = λ clean. is }
  issue_seen here es office placed (Err e) before is none = no_memory here es office office placed.0 e none

  -- ---- the evidence of an event

  module _ (p : ProfileName) (n : ℕ) (line : Option ℕ) where
    module _ (here : Place) (es : List (ℕ × Event)) (old : X) (placed : ℕ × Event) (before : HasReplayed bytes m here es old) where
      abbrev look : History → Option (List ℕ)
      look h = evidence_of p n line h placed

      -- the sheet is there, and what stands below it was found
      pub sheet_seen : (seen new : X) (sheet ending text : List ℕ) → HasLookedBack m old seen (sheet_at p n) (Ok (Some sheet))
          → HasSeen bytes m here es seen new (λ h. ending_of line h placed) ending → text ≡ sheet ++ ending → HasSeen bytes m here es old new look (Some text)
      sheet_seen seen new sheet ending text looked below is = record {
        clean = λ clean. looked.leaves.survives.clean (below.clean clean);
        replayed = below.replayed;
        says = λ clean.
            let between = below.clean clean in
            let was = looked.leaves.survives.clean between in
            let found : Some sheet ≡ sheet_at p n (history_told es) = looked.found (history_told es) (before.stands was).is_of between in
            ap (λ t. Some t) (is ∙ ap (λ t. sheet ++ t) (below.says clean)) ∙ ap (λ (o : Option (List ℕ)). option_map (λ s. s ++ ending_of line (history_told es) placed) o) found;
      }

      -- or that wasn't
      pub ending_unseen : (seen new : X) (at : ℕ) (none : NoEvidence) → LooksInVain bytes m here es seen new at none → LooksInVain bytes m here es old new at none
      ending_unseen seen new at (why.Refused refused) vain = absurd vain
      ending_unseen seen new at (why.Unseen other fault) vain = (vain.0, record { seen = vain.1.seen; replayed = vain.1.replayed; met = vain.1.met })
      ending_unseen seen new at why.NotIssued vain = absurd vain
      ending_unseen seen new at why.NoEvent vain = absurd vain
      ending_unseen seen new at why.NoRevision vain = absurd vain
      ending_unseen seen new at (why.NoMemory _) vain = tt

      -- the revision isn't there
      pub none_seen : (new : X) → HasLookedBack m old new (sheet_at p n) (Ok None) → HasSeen bytes m here es old new look None
      none_seen new looked = record {
        clean = looked.leaves.survives.clean;
        replayed = looked_on m bytes here es old new _ None before looked;
        says = λ clean.
            let was = looked.leaves.survives.clean clean in
            let found : None ≡ sheet_at p n (history_told es) = looked.found (history_told es) (before.stands was).is_of clean in
            ap (λ (o : Option (List ℕ)). option_map (λ s. s ++ ending_of line (history_told es) placed) o) found;
      }

      -- the office met a fault
      pub sheet_unseen : (new : X) (fault : Fault) → HasLookedBack m old new (sheet_at p n) (Err fault)
          → LooksInVain bytes m here es old new placed.0 (why.Unseen placed.0 fault)
      sheet_unseen new fault looked = (
        refl,
        record {
          seen = old;
          replayed = before;
          met = λ clean. looked.cause (history_told es) (before.stands (looked.leaves.survives.clean clean)).is_of clean;
        },
      )

    -- ---- the event that is asked for

    module _ (here behind : Place) (es : List (ℕ × Event)) (old seen new : X) (placed : ℕ × Event) (told : GoesOn here behind (placed ∷ [])) (asked : is_wanted p n line placed ≡ true) where
      -- no evidence of it is there
      none_there : (h : History) → None ≡ evidence_of p n line h placed → revision_of h p n ≡ None
      none_there h none = unmapped (revision_of h p n) none
        where
          unmapped : (o : Option RevisionRow) → None ≡ option_map (λ s. s ++ ending_of line h placed) (option_map (λ r. sheet_text_of p r h) o) → o ≡ None
          unmapped None none = refl
          unmapped (Some row) none = absurd cc

      module _ (happened : HasHappened m seen new placed.1) where
        happened_on : HasReplayed bytes m here es seen → HasReplayed bytes m behind (es ++ placed ∷ []) new
        happened_on before = more m bytes here behind es placed.0 placed.1 seen new before told happened

        -- it happened again, and this is its evidence
        pub given : (text : List ℕ) → HasSeen bytes m here es old seen (λ h. evidence_of p n line h placed) (Some text) → Searches bytes p n line m new (Ok text)
        given text look = record {
          before = es;
          placed = placed;
          behind = behind;
          replayed = happened_on look.replayed;
          wanted = asked;
          says = λ clean. look.says (happened.survives.clean clean);
        }

        -- or the revision wasn't there
        pub not_given : HasSeen bytes m here es old seen (λ h. evidence_of p n line h placed) None → Searches bytes p n line m new (Err why.NoRevision)
        not_given look = record {
          before = es;
          placed = placed;
          behind = behind;
          replayed = happened_on look.replayed;
          wanted = asked;
          none = λ clean. none_there (history_told es) (look.says (happened.survives.clean clean));
        }

      -- it didn't happen again
      pub kept : (found : Option (List ℕ)) (refused : Refused) → HasSeen bytes m here es old seen (λ h. evidence_of p n line h placed) found → IsKeptOut m seen new placed refused.line refused.why
          → Searches bytes p n line m new (Err (why.Refused refused))
      kept found refused look out = kept_out m bytes here behind es placed seen new refused.line refused.why look.replayed told out

      -- it couldn't be looked at
      pub unseen : (none : NoEvidence) → LooksInVain bytes m here es old new placed.0 none → Searches bytes p n line m new (Err none)
      unseen (why.Refused refused) vain = absurd vain
      unseen (why.Unseen at fault) vain = record {
        before = es;
        event = placed.1;
        here = here;
        behind = behind;
        old = vain.1.seen;
        replayed = vain.1.replayed;
        told = subst (λ (k : ℕ). GoesOn here behind ((k, placed.1) ∷ [])) (sym vain.0) told;
        wanted = subst (λ (k : ℕ). is_wanted p n line (k, placed.1) ≡ true) (sym vain.0) asked;
        met = vain.1.met;
      }
      unseen why.NotIssued vain = absurd vain
      unseen why.NoEvent vain = absurd vain
      unseen why.NoRevision vain = absurd vain
      unseen (why.NoMemory _) vain = tt

    -- ---- the events

    -- before the founding no revision is there
    pub unfounded : (here : Place) (first : ℕ × Event) (office : X) → HasReplayed bytes m here (first ∷ []) office → is_wanted p n line first ≡ true
        → Searches bytes p n line m office (Err why.NoRevision)
    unfounded here first office replayed asked = record {
      before = [];
      placed = first;
      behind = here;
      replayed = replayed;
      wanted = asked;
      none = λ clean. refl;
    }

    -- the founding isn't asked for
    pub none_first : (first : ℕ × Event) → is_wanted p n line first ≡ false → NoneWanted p n line (first ∷ [])
    none_first first other = All-cons (λ placed. is_wanted p n line placed ≡ false) first [] other (All-nil (λ placed. is_wanted p n line placed ≡ false))

    -- no event is left
    module _ (here end : Place) (es : List (ℕ × Event)) (office : X) (before : HasReplayed bytes m here es office) (ends : Ends here end) (none : NoneWanted p n line es) where
      told_all : Tells (start bytes) es
      told_all = subst (Tells (start bytes)) (append-nil es) (before.told.tells [] ends.tells)

      is_never : IsNever bytes p n line m office
      is_never = record {
        events = es;
        told = told_all;
        journal = journal bytes told_all;
        lawful = before.lawful;
        never = none;
      }
        where
          journal : (bytes : Option (List ℕ)) → Tells (start bytes) es → IfSome bytes (λ text. IsJournalOf text (history_told es))
          journal None t = tt
          journal (Some text) t = journal_told text es t

      by_line : (given : Option ℕ) → given ≡ line → IsInVain bytes p n line m office (none_of given)
      by_line None same = (sym same, is_never)
      by_line (Some at) same = (ap (λ (o : Option ℕ). is_none o) (sym same), is_never)

      pub never : Searches bytes p n line m office (Err (none_of line))
      never = by_line line refl

-- why there is no evidence, from the connection on
pub none_found : {S : Type 0} (g : Ghosts S) (bytes : Option (List ℕ)) (p : ProfileName) (n : ℕ) (line : Option ℕ) (conn left : Held S) (none : NoEvidence)
    → IsInVain bytes p n line (meaning_over g) left none → IsNoEvidence bytes p n line g conn left none
none_found g bytes p n line conn left (why.Refused refused) vain = none_behind g bytes conn left refused.line refused.why vain
none_found g bytes p n line conn left (why.Unseen at fault) vain = vain
none_found g bytes p n line conn left why.NotIssued vain = vain
none_found g bytes p n line conn left why.NoEvent vain = vain
none_found g bytes p n line conn left why.NoRevision vain = vain
none_found g bytes p n line conn left (why.NoMemory _) vain = vain
