-- The issued revision of a profile is that of its newest issue.
use Rattle.std.proofs.Common.{◌≡◌, ◌∙◌, ℕ, true, false, cond, Some, None, Option, refl, sym, ap, subst}
use Rattle.std.specs.Prelude.{option_map, option_and_then}
use Rattle.office_words.specs.declared.name.ProfileName.{ProfileName}
use Rattle.review_policy.specs.Rules.{is_issued}
use Rattle.office_words.specs.declared.row.RevisionRow.{RevisionRow}
use Rattle.office_words.specs.Reads.{IsIssued}
use Rattle.office_policy.specs.History.{History}
use Rattle.office_policy.specs.Revisions.{Submission, revision_count, submission_of, revision_of, state_in, last_issue, if_issued, issued_revision}
use Rattle.office_policy.specs.TablesOf.{tables_of}
use Rattle.office_policy.proofs.StateFacts.{row_at}
use Rattle.office_policy.proofs.Histories.{newest}
use Rattle.office_policy.proofs.GivenOut.{issued_state}

-- a revision that is issued now is the issued one
pub issued_at : (h : History) (p : ProfileName) (n : ℕ) (r : RevisionRow) → revision_of h p n ≡ Some r → is_issued (Some r.state) ≡ true
    → issued_revision h p ≡ Some r
issued_at h p n r there is =
    let number : last_issue h p ≡ Some n = newest h p n (ap (λ o. is_issued (state_in o)) there ∙ is) in
    ap (λ o. if_issued (option_and_then (revision_of h p) o)) number ∙ ap if_issued there ∙ rw is refl

-- the number of a revision is that which it was asked for under
numbered : (h : History) (p : ProfileName) (n : ℕ) (r : RevisionRow) → revision_of h p n ≡ Some r → r.number ≡ n
numbered h p n r there = by_submission (submission_of h p n) there
  where
    by_submission : (s : Option Submission) → option_map (row_at h p n (revision_count h p)) s ≡ Some r → r.number ≡ n
    by_submission None is = absurd (cc)
    by_submission (Some s) is = let same : row_at h p n (revision_count h p) s ≡ r = cc in sym (ap (λ (x : RevisionRow). x.number) same)

-- a revision that a test keeps
kept : (o : Option RevisionRow) (r : RevisionRow) → if_issued o ≡ Some r → (o ≡ Some r) × (is_issued (Some r.state) ≡ true)
kept None r is = absurd (cc)
kept (Some x) r is =
    elim (is_issued (Some x.state)) as (λ b. is_issued (Some x.state) ≡ b → cond b (Some x) None ≡ Some r
    → (Some x ≡ Some r) × (is_issued (Some r.state) ≡ true)) [
      | true ↦ λ passes at. let same : x ≡ r = cc in (at, subst (λ (y : RevisionRow). is_issued (Some y.state) ≡ true) same passes)
      | false ↦ λ fails at. absurd (cc)
    ] refl is

-- the issued revision is there, and issued
pub issued_there : (h : History) (p : ProfileName) (r : RevisionRow) → issued_revision h p ≡ Some r
    → (revision_of h p r.number ≡ Some r) × (is_issued (Some r.state) ≡ true)
issued_there h p r is = by_issue (last_issue h p) (kept (option_and_then (revision_of h p) (last_issue h p)) r is)
  where
    by_issue : (o : Option ℕ) → (option_and_then (revision_of h p) o ≡ Some r) × (is_issued (Some r.state) ≡ true)
        → (revision_of h p r.number ≡ Some r) × (is_issued (Some r.state) ≡ true)
    by_issue None it = absurd (cc)
    by_issue (Some n) it = (ap (revision_of h p) (numbered h p n r it.0) ∙ it.0, it.1)

-- what the tables have as issued is the issued revision
pub issued_is : (h : History) (p : ProfileName) (found : Option RevisionRow) → IsIssued (tables_of h) p found → found ≡ issued_revision h p
issued_is h p (Some r) is = sym (issued_at h p r.number r is.0 (ap (λ s. is_issued (Some s)) is.1))
issued_is h p None none = by_found (issued_revision h p) refl
  where
    by_found : (o : Option RevisionRow) → issued_revision h p ≡ o → None ≡ o
    by_found None is = refl
    by_found (Some r) is = let it = issued_there h p r is in absurd (none r.number r it.0 (issued_state r.state it.1))
