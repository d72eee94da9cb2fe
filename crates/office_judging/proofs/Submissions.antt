-- How a document that is handed in meets its verdict.
use Rattle.std.proofs.Common.{◌≡◌, ◌∙◌, ℕ, suc, List, Bool, not, Option, Some, None, Err, Ok, refl, sym, ap, Vec, Global}
use Rattle.std.specs.Prelude.{Result, ⊤}
use Rattle.sqlite.specs.State.{State}
use Rattle.office_words.specs.declared.name.ProfileName.{ProfileName}
use Rattle.review_policy.specs.declared.ask.Ask.TheVariants as ask
use Rattle.review_policy.specs.declared.answer.Reply.TheVariants.{Submitted}
use Rattle.review_policy.specs.declared.denial.Denial.{Denial}
use Rattle.review_policy.specs.declared.denial.Rule.{Rule}
use Rattle.review_policy.specs.declared.denial.Rule.TheVariants.{Document}
use Rattle.review_policy.specs.declared.facts.SubmitFacts.{SubmitFacts}
use Rattle.review_policy.specs.declared.facts.TheConstants.SubmitFacts.{PASSING}
use Rattle.office_words.specs.declared.role.Role.TheVariants.{Author}
use Rattle.review_policy.specs.Rules.{submit_rules, known_denial}
use Rattle.profile_text.specs.declared.profile.Profile.{Profile}
use Rattle.profile_text.specs.declared.fault.DocFault.{DocFault}
use Rattle.profile_text.specs.Digest.{digest_of}
use Rattle.profile_text.specs.Reading.{reading_of}
use Rattle.profile_text.specs.Text.{text_of}
use Rattle.office_words.specs.declared.row.UserRow.{UserRow}
use Rattle.office_words.specs.declared.row.RevisionRow.{RevisionRow}
use Rattle.office_words.specs.Lists.{holds_role}
use Rattle.office_words.specs.Reads.{IsLast, submitted as new_row}
use Rattle.office_store.specs.Shown.{IsIdle}
use Rattle.office_policy.specs.History.{History, submitted}
use Rattle.office_policy.specs.Users.{is_of_team}
use Rattle.office_policy.specs.Revisions.{revision_count, last_revision, if_open, number_of}
use Rattle.office_policy.specs.Facts.{canonical, is_text_of, submit_facts}
use Rattle.office_policy.specs.Verdict.{Verdict, accepted, denied, fault_told, new_revision, verdict_of}
use Rattle.office_policy.specs.TablesOf.{tables_of}
use Rattle.office_policy.proofs.Submissions.{last_found, last_number}
use Rattle.office_judging.specs.declared.refusal.Refusal.{Refusal}
use Rattle.office_judging.specs.declared.refusal.Refusal.TheVariants as refusals
use Rattle.office_judging.specs.AtOnce.{IsRefusedAtOnce}
use Rattle.office_judging.specs.Judged.{IsAllowedBy, IsAskedBy, Judges, added_by}
use Rattle.office_judging.proofs.Judging.{refused_at_once, failed_at_once}
use Rattle.office_judging.proofs.Verdicts.{denied_is, allowed_is}

-- what is asked of a document that reads: of its caller and team, whether its text is the open one, and how many revisions
-- there are
abbrev facts_on : UserRow → List ℕ → (same : Bool) → (revisions : ℕ) → SubmitFacts
facts_on caller team same revisions = record PASSING {
  role_missing = not (holds_role (Some caller) Author);
  other_team = not (is_of_team (Some caller) team);
  same_as_open = same;
  revisions = revisions;
}

-- and what the rules say, by its text and the last revision
abbrev decision_on : UserRow → List ℕ → (text : List ℕ) → Option RevisionRow → Result ⊤ Denial
decision_on caller team text last = known_denial (submit_rules (facts_on caller team (is_text_of (Some text) (if_open last)) (number_of last)))

-- a document with a canonical text reads
reads : (reading : Result Profile DocFault) (text : List ℕ) → canonical reading ≡ Some text
    → (profile : Profile) × (reading ≡ Ok profile) × (text_of profile ≡ text)
reads (Ok profile) text e = (profile, refl, cc)
reads (Err f) text e = absurd cc

-- a document that reads has no fault to tell
read_untold : (rule : Rule) (profile : Profile) → fault_told rule (Ok profile) ≡ None
read_untold Document profile = refl
read_untold _ profile = refl

-- a refusal at once is told
pub turned_away : {A : Type 0} {Found : History → A → Type 0} (judge : History → Verdict) (s : State) (refusal : Refusal) → IsIdle s → IsRefusedAtOnce refusal judge
    → Judges {A = A} s s (Err refusal) judge Found
turned_away judge s (refusals.Denied denial fault) idle is = refused_at_once judge s denial fault idle (λ h lawful. is h)
turned_away judge s (refusals.Fault fault) idle is = failed_at_once judge s fault idle is

-- the text of a revision that is added is that of the document
pub asked_of : (caller : UserRow) (p : ProfileName) (document : Vec ℕ Global) (text : List ℕ) → canonical (reading_of document.items) ≡ Some text → (row : RevisionRow) → row.body ≡ text
    → IsAskedBy (ask.Submit p document) (added_by caller p row)
asked_of caller p document text is_text row is =
    let read = reads (reading_of document.items) text is_text in
    record { read = read.0; reads = read.1; happened = ap (λ t. Some (submitted caller.name p t)) (is ∙ sym read.2) }

module _ (h : History) (caller : UserRow) (p : ProfileName) (document : Vec ℕ Global) where
  -- the rules, by what the document reads as
  abbrev decided : Result Profile DocFault → Result ⊤ Denial
  decided reading = known_denial (submit_rules (submit_facts (Some caller) p.team reading (last_revision h p) (revision_count h p)))

  module _ (text : List ℕ) (is_text : canonical (reading_of document.items) ≡ Some text)
      (last : Option RevisionRow) (is_last : IsLast (tables_of h) p last) where
    abbrev profile : Profile
    profile = (reads (reading_of document.items) text is_text).0

    is_read : reading_of document.items ≡ Ok profile
    is_read = (reads (reading_of document.items) text is_text).1

    is_its : text_of profile ≡ text
    is_its = (reads (reading_of document.items) text is_text).2

    decided_on : decided (reading_of document.items) ≡ decision_on caller p.team text last
    decided_on =
        ap decided is_read
        ∙ (λ i. known_denial (submit_rules (facts_on caller p.team
        (is_text_of (Some (is_its i)) (if_open (sym (last_found h p last is_last) i))) (sym (last_number h p last is_last) i))))

    -- what the last revision refuses
    pub refused : (d : Denial) → decision_on caller p.team text last ≡ Err d
        → verdict_of h (Some caller) (ask.Submit p document) ≡ denied d None
    refused d e =
        denied_is h (Some caller) (ask.Submit p document) d (decided_on ∙ e)
        ∙ ap (λ r. denied d (fault_told d.rule r)) is_read ∙ ap (denied d) (read_untold d.rule profile)

    -- none refuses it
    pub accepts : (row : RevisionRow) → row ≡ new_row (suc (number_of last)) caller.name text (digest_of text)
        → decision_on caller p.team text last ≡ Ok tt
        → IsAllowedBy (verdict_of h (Some caller) (ask.Submit p document)) (λ user. Some caller ≡ Some user) h (added_by caller p row)
    accepts row is_row e =
        let is_next : row ≡ new_row (suc (revision_count h p)) caller.name text (digest_of text) =
        is_row ∙ ap (λ n. new_row (suc n) caller.name text (digest_of text)) (last_number h p last is_last) in
        let is_text : text ≡ row.body = sym (ap (λ r. r.body) is_next) in
        record {
          caller = refl;
          verdict = allowed_is h (Some caller) (ask.Submit p document) (decided_on ∙ e) ∙ ap (new_revision h (Some caller) p) is_read
              ∙ ap (λ (t : List ℕ). accepted (Submitted (digest_of t) (suc (revision_count h p))) (Some (submitted caller.name p t))) is_its
              ∙ ap (λ (r : RevisionRow). accepted (Submitted r.digest r.number) (Some (submitted caller.name p r.body))) (sym is_next);
          next = is_next ∙ ap (λ t. new_row (suc (revision_count h p)) caller.name t (digest_of t)) is_text;
        }
