-- The texts of why no office is built anew from a journal or opened again with one, and of why there is
-- no evidence in one, or not its whole history was written.
use Rattle.std.specs.Prelude.{ℕ, List, [], ◌++◌, ◌==◌, if◌then◌else◌, codes, decimal}
use Rattle.office_words.specs.WordTables.{fault_word}
use Rattle.review_policy.specs.WordTables.{rule_word}
use Rattle.office_founding.specs.Faults.{founding_fault_word}
use Rattle.review_office.specs.declared.replay.Unreplayed.{Unreplayed}
use Rattle.review_office.specs.declared.replay.Unreplayed.TheVariants as causes
use Rattle.sealed_log.specs.FaultTexts.{unreadable_word}
use Rattle.journal_faults.specs.declared.no_evidence.NoEvidence.{NoEvidence}
use Rattle.journal_faults.specs.declared.no_evidence.NoEvidence.TheVariants as evidence
use Rattle.journal_faults.specs.declared.not_reopened.NotReopened.{NotReopened}
use Rattle.journal_faults.specs.declared.not_reopened.NotReopened.TheVariants as reopening
use Rattle.journal_faults.specs.declared.refused.Refused.{Refused}
use Rattle.journal_faults.specs.declared.refused.Why.{Why}
use Rattle.journal_faults.specs.declared.refused.Why.TheVariants as why
use Rattle.journal_faults.specs.declared.unwritten.Unwritten.{Unwritten}
use Rattle.journal_faults.specs.declared.unwritten.Unwritten.TheVariants as unwritten

-- why an event doesn't happen again: of a rule that refuses it the number and the word
abbrev pub unreplayed_text : Unreplayed → List ℕ
unreplayed_text (causes.Denied denial) =
    codes "rule " ++ decimal denial.number ++ codes " " ++ rule_word denial.rule
unreplayed_text causes.Founding = codes "founding"
unreplayed_text causes.OtherText = codes "other-text"
unreplayed_text (causes.Fault fault) = fault_word fault

-- why no office is built anew
abbrev pub why_text : Why → List ℕ
why_text (why.Unread fault) = unreadable_word fault
why_text why.NotFounded = codes "not-founded"
why_text (why.Unfounded fault) = founding_fault_word fault
why_text (why.Unreplayed cause) = unreplayed_text cause

-- by which line, where it is one's fault
abbrev pub line_text : ℕ → List ℕ
line_text line = if line == 0 then [] else codes "line " ++ decimal line ++ codes ": "

-- where and why
abbrev pub refused_text : Refused → List ℕ
refused_text refused = line_text refused.line ++ why_text refused.why

-- why an office wasn't opened again with its journal
abbrev pub not_reopened_text : NotReopened → List ℕ
not_reopened_text reopening.Unsealed = codes "unsealed"
not_reopened_text reopening.NotALine = codes "not-a-journal"
not_reopened_text (reopening.Changed at) = codes "changed at " ++ decimal at
not_reopened_text reopening.OtherJournal = codes "other-journal"
not_reopened_text (reopening.Office why) = fault_word why
not_reopened_text reopening.Log = codes "journal"
not_reopened_text (reopening.NoMemory _) = codes "memory"

-- why there is no evidence
abbrev pub no_evidence_text : NoEvidence → List ℕ
no_evidence_text (evidence.Refused refused) = refused_text refused
no_evidence_text (evidence.Unseen line fault) =
    codes "line " ++ decimal line ++ codes ": " ++ fault_word fault
no_evidence_text evidence.NotIssued = codes "not-issued"
no_evidence_text evidence.NoEvent = codes "no-event"
no_evidence_text evidence.NoRevision = codes "no-revision"
no_evidence_text (evidence.NoMemory _) = codes "memory"

-- why not the whole history was written
abbrev pub unwritten_text : Unwritten → List ℕ
unwritten_text (unwritten.Refused refused) = refused_text refused
unwritten_text (unwritten.Unseen line fault) =
    codes "line " ++ decimal line ++ codes ": " ++ fault_word fault
unwritten_text unwritten.Write = codes "write"
unwritten_text (unwritten.NoMemory _) = codes "memory"
