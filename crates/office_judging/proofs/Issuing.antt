-- How an issue meets its verdict.
use Rattle.std.proofs.Common.{arith, ◌≡◌, ◌∙◌, ◌↔◌, ℕ, List, Bool, true, false, not, ◌&&◌, Option, Some, None, Ok, Err, take, drop, refl, sym, ap, subst}
use Rattle.std.specs.Prelude.{nat_lt, ◌==◌}
use Rattle.review_policy.specs.declared.act.RevisionAct.TheVariants.{Issue}
use Rattle.review_policy.specs.declared.ask.Ask.TheVariants as ask
use Rattle.office_words.specs.declared.name.ProfileName.{ProfileName}
use Rattle.review_policy.specs.declared.answer.Reply.TheVariants as reply
use Rattle.review_policy.specs.declared.denial.Denial.{Denial}
use Rattle.review_policy.specs.declared.denial.Need.{Need}
use Rattle.review_policy.specs.declared.denial.Need.TheVariants.{One, TwoWithSecurity}
use Rattle.review_policy.specs.declared.facts.IssueFacts.{IssueFacts}
use Rattle.review_policy.specs.declared.facts.TheConstants.IssueFacts.{PASSING}
use Rattle.office_words.specs.declared.role.Role.TheVariants.{Issuer}
use Rattle.review_policy.specs.Rules.{first_from, issue_rules, behind_caller, known_denial}
use Rattle.office_words.specs.declared.row.UserRow.{UserRow}
use Rattle.office_words.specs.declared.row.RevisionRow.{RevisionRow}
use Rattle.office_words.specs.declared.listed.Tally.{Tally}
use Rattle.office_words.specs.Tables.{Tables}
use Rattle.office_words.specs.Lists.{IsAuthor, IsTally, holds_role}
use Rattle.office_policy.specs.History.{History, issued}
use Rattle.office_policy.specs.Revisions.{revision_of, is_author}
use Rattle.office_policy.specs.Votes.{tally_at}
use Rattle.office_policy.specs.Holds.{is_held}
use Rattle.office_policy.specs.Need.{need_of_row, need_at}
use Rattle.office_policy.specs.Facts.{issue_facts}
use Rattle.office_policy.specs.Verdict.{accepted, denied, of_revision, verdict_of}
use Rattle.office_policy.proofs.VoterFacts.{tally_is}
use Rattle.office_policy.specs.LooksBack.{LooksBack}
use Rattle.office_policy.proofs.LookUps.{author_is}
use Rattle.office_judging.specs.declared.baseline.Comparison.{Comparison}
use Rattle.office_judging.specs.declared.issue.Looked.{Looked}
use Rattle.office_judging.specs.Compared.{compared_at, need_of}
use Rattle.office_judging.specs.Issuing.{deciding_need, is_enough_for_any, looked_at, one_approval}
use Rattle.office_judging.proofs.Early.{alike_behind, refused_early}
use Rattle.office_judging.proofs.Verdicts.{denied_is, allowed_is}

-- ---- what is looked up

pub looked_found : (p : ProfileName) (n : ℕ) (name : List ℕ) (row : Option RevisionRow) (author : Bool) (tally : Tally) (held : Bool) (t : Tables)
    → row ≡ t.revisions p n → ((author ≡ true) ↔ IsAuthor t p name) → IsTally t p n tally → held ≡ t.holds p
    → LooksBack (λ h. looked_at h p n name) t (record { revision = row; by_author = author; tally = tally; held = held })
looked_found p n name row author tally held t is_row is_by is_tally is_hold h lawful is =
    let row_is : row ≡ revision_of h p n = is_row ∙ ap (λ u. u.revisions p n) is in
    let author_told : author ≡ is_author h p name = author_is h p name author (subst (λ u. (author ≡ true) ↔ IsAuthor u p name) is is_by) in
    let tally_told : tally ≡ tally_at h p n = tally_is h p n tally (subst (λ u. IsTally u p n tally) is is_tally) in
    let held_is : held ≡ is_held h p = is_hold ∙ ap (λ u. u.holds p) is in
    λ i. record { revision = row_is i; by_author = author_told i; tally = tally_told i; held = held_is i }

-- ---- the verdict

-- what the rules ask, by what was looked up and the need
abbrev pub facts_by : UserRow → Looked → Need → IssueFacts
facts_by caller l need = issue_facts (Some caller) l.revision l.by_author l.tally need l.held

-- and before the approvals
abbrev pub facts_early : UserRow → Looked → IssueFacts
facts_early caller l = issue_facts (Some caller) l.revision l.by_author (one_approval l.tally.rejections) One false

abbrev pub facts_of_caller : UserRow → IssueFacts
facts_of_caller caller = record PASSING { role_missing = not (holds_role (Some caller) Issuer) }

-- ---- a need that can't matter

both_not : (a b : Bool) → (not a && not b) ≡ true → (a ≡ false) × (b ≡ false)
both_not false false e = (refl, refl)
both_not false true e = absurd cc
both_not true b e = absurd cc

fewer : (a : ℕ) → nat_lt a 2 ≡ false → nat_lt a 1 ≡ false
fewer a e = grind arith

-- behind the rejections two needs decide alike where there is enough for any
enough_alike : (caller : UserRow) (l : Looked) → is_enough_for_any l.tally ≡ true → (m : ℕ)
    → first_from m (drop 6 (behind_caller false (issue_rules (facts_by caller l One)))) ≡ first_from m (drop 6 (behind_caller false (issue_rules (facts_by caller l TwoWithSecurity))))
enough_alike caller l enough m =
    let told = both_not (nat_lt l.tally.approvals 2) (l.tally.secure == 0) enough in
    rw told.0 (rw told.1 (rw (fewer l.tally.approvals told.0) refl))

decided_by : (caller : UserRow) (l : Looked) (need : Need) (b : Bool) → is_enough_for_any l.tally ≡ b
    → known_denial (issue_rules (facts_by caller l (deciding_need l.tally need))) ≡ known_denial (issue_rules (facts_by caller l need))
decided_by caller l need false e = rw e refl
decided_by caller l One true e = rw e refl
decided_by caller l TwoWithSecurity true e =
    rw e (alike_behind 1 (take 6 (behind_caller false (issue_rules (facts_by caller l One)))) (drop 6 (behind_caller false (issue_rules (facts_by caller l One))))
    (drop 6 (behind_caller false (issue_rules (facts_by caller l TwoWithSecurity)))) (enough_alike caller l e))

-- the rules decide by it as by the need itself
pub decided_alike : (caller : UserRow) (l : Looked) (need : Need)
    → known_denial (issue_rules (facts_by caller l (deciding_need l.tally need))) ≡ known_denial (issue_rules (facts_by caller l need))
decided_alike caller l need = decided_by caller l need (is_enough_for_any l.tally) refl

-- a need that decides, where nothing is read for it
pub enough_decides : (team : List ℕ) (tally : Tally) (body : List ℕ) (t : Tables) → is_enough_for_any tally ≡ true
    → LooksBack (λ h. deciding_need tally (need_of (compared_at h team) body)) t One
enough_decides team tally body t enough h lawful same = rw enough refl

-- and where it is worked out
pub need_decides : (team : List ℕ) (tally : Tally) (body : List ℕ) (t : Tables) (c : Comparison) (need : Need) → is_enough_for_any tally ≡ false → need ≡ need_of c body
    → LooksBack (λ h. compared_at h team) t c → LooksBack (λ h. deciding_need tally (need_of (compared_at h team) body)) t need
need_decides team tally body t c need few is looks h lawful same = rw few (is ∙ ap (λ k. need_of k body) (looks h lawful same))

-- ---- how it is decided

module _ (h : History) (caller : UserRow) (p : ProfileName) (n : ℕ) where
  -- a caller without the role is refused whatever the revision
  pub caller_refused : (d : Denial) → known_denial (issue_rules (facts_of_caller caller)) ≡ Err d
      → verdict_of h (Some caller) (ask.ActOnRevision Issue p n) ≡ denied d None
  caller_refused d e =
      let all = behind_caller false (issue_rules (facts_by caller (looked_at h p n caller.name) (need_at h p n))) in
      denied_is h (Some caller) (ask.ActOnRevision Issue p n) d (refused_early (take 2 all) (drop 2 (behind_caller false (issue_rules (facts_of_caller caller)))) (drop 2 all) d refl e)

  module _ (l : Looked) (is : l ≡ looked_at h p n caller.name) where
    denied_by : (d : Denial) → known_denial (issue_rules (facts_by caller l (need_at h p n))) ≡ Err d
        → verdict_of h (Some caller) (ask.ActOnRevision Issue p n) ≡ denied d None
    denied_by d e =
        denied_is h (Some caller) (ask.ActOnRevision Issue p n) d
        (subst (λ k. known_denial (issue_rules (facts_by caller k (need_at h p n))) ≡ Err d) is e)

    -- what refuses whatever is needed
    pub refused_early_on : (d : Denial) → known_denial (issue_rules (facts_early caller l)) ≡ Err d
        → verdict_of h (Some caller) (ask.ActOnRevision Issue p n) ≡ denied d None
    refused_early_on d e =
        let all = behind_caller false (issue_rules (facts_by caller l (need_at h p n))) in
        denied_by d (refused_early (take 6 all) (drop 6 (behind_caller false (issue_rules (facts_early caller l)))) (drop 6 all) d refl e)

    -- the need of the revision
    module _ (r : RevisionRow) (there : l.revision ≡ Some r) (asked : Need)
        (is_asked : asked ≡ deciding_need l.tally (need_of (compared_at h p.team) r.body)) where
      row_is : revision_of h p n ≡ Some r
      row_is = sym (ap (λ k. k.revision) is) ∙ there

      abbrev need : Need
      need = need_of (compared_at h p.team) r.body

      need_is : need ≡ need_at h p n
      need_is = ap (need_of_row h p.team) (sym row_is)

      decides : known_denial (issue_rules (facts_by caller l (need_at h p n))) ≡ known_denial (issue_rules (facts_by caller l asked))
      decides =
          sym
          (ap (λ k. known_denial (issue_rules (facts_by caller l k))) is_asked ∙ decided_alike caller l need
          ∙ ap (λ k. known_denial (issue_rules (facts_by caller l k))) need_is)

      pub refused_by_need : (d : Denial) → known_denial (issue_rules (facts_by caller l asked)) ≡ Err d
          → verdict_of h (Some caller) (ask.ActOnRevision Issue p n) ≡ denied d None
      refused_by_need d e = denied_by d (decides ∙ e)

      -- none refuses it
      pub accepts : known_denial (issue_rules (facts_by caller l asked)) ≡ Ok tt
          → verdict_of h (Some caller) (ask.ActOnRevision Issue p n) ≡ accepted (reply.Issued r.digest) (Some (issued caller.name p n))
      accepts e =
          allowed_is h (Some caller) (ask.ActOnRevision Issue p n)
          (subst (λ k. known_denial (issue_rules (facts_by caller k (need_at h p n))) ≡ Ok tt) is (decides ∙ e))
          ∙ ap (λ o. of_revision o (λ r. accepted (reply.Issued r.digest) (Some (issued caller.name p n)))) row_is
