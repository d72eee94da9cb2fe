-- How a request meets its verdict, and what it comes to by its kind.
use Rattle.std.proofs.Common.{◌≡◌, ◌∙◌, List, ℕ, Option, Some, None, Result, Ok, Err, IfOk, refl, sym, ap, subst}
use Rattle.sqlite.specs.State.{State}
use Rattle.review_policy.specs.Rules.{first_denial}
use Rattle.review_policy.specs.declared.ask.Ask.{Ask}
use Rattle.review_policy.specs.declared.ask.Ask.TheVariants as ask
use Rattle.review_policy.specs.declared.ask.Request.{Request}
use Rattle.review_policy.specs.declared.answer.Answer.TheVariants.{Done, Denied, Fault}
use Rattle.review_policy.specs.declared.denial.Denial.{Denial}
use Rattle.review_policy.specs.declared.denial.Rule.TheVariants.{CallerUnknown}
use Rattle.office_words.specs.declared.row.UserRow.{UserRow}
use Rattle.office_words.specs.Reads.{IsUserShowing}
use Rattle.profile_text.specs.Digest.{digest_of}
use Rattle.office_policy.specs.declared.judge.Allowed.{Allowed}
use Rattle.office_policy.specs.declared.judge.Judgement.{Judgement}
use Rattle.office_policy.specs.declared.judge.Judgement.TheVariants as judgements
use Rattle.office_policy.specs.Users.{user_showing}
use Rattle.office_policy.proofs.LookUps.{shower_is}
use Rattle.office_store.specs.Shown.{IsIdle}
use Rattle.office_policy.specs.History.{History}
use Rattle.office_policy.specs.Verdict.{Verdict, denied, rules_of, done_of, fault_beside, judged, verdict_of, verdict}
use Rattle.office_policy.specs.Lawful.{IsLawfulHistory}
use Rattle.office_policy.specs.TablesOf.{tables_of}
use Rattle.office_judging.specs.declared.refusal.Refusal.{Refusal}
use Rattle.office_judging.specs.declared.refusal.Refusal.TheVariants as refusals
use Rattle.office_judging.specs.Judged.{ComesTo, IsAskedBy, JudgesChange, JudgesFor}
use Rattle.office_judging.specs.Steps.{allowed_of}
use Rattle.office_judging.proofs.Judging.{judged_as, refused_as, refused_at_once}

-- ---- verdicts

-- a request that a rule refuses
pub denied_is : (h : History) (caller : Option UserRow) (a : Ask) (d : Denial) → first_denial (rules_of h caller a) ≡ Err d → verdict_of h caller a ≡ denied d (fault_beside h a d.rule)
denied_is h caller a d e = ap (judged h caller a) e

-- and one that none refuses
pub allowed_is : (h : History) (caller : Option UserRow) (a : Ask) → first_denial (rules_of h caller a) ≡ Ok tt → verdict_of h caller a ≡ done_of h caller a
allowed_is h caller a e = ap (judged h caller a) e

-- a stranger is refused whatever is asked
pub stranger : (h : History) (a : Ask) → verdict_of h None a ≡ denied (record { number = 1; rule = CallerUnknown }) None
stranger h (ask.Submit p document) = refl
stranger h _ = refl

-- the caller is the user who was found by the token's digest
pub called : (h : History) → IsLawfulHistory h → (r : Request) (digest : List ℕ) (user : Option UserRow) → digest ≡ digest_of r.token → IsUserShowing (tables_of h) digest user
    → verdict_of h user r.ask ≡ verdict h r
called h lawful r digest user is showing = ap (λ u. verdict_of h u r.ask) (shower_is h lawful digest user showing ∙ ap (user_showing h) is)

-- who is the one who shows the token
pub shows : (h : History) → IsLawfulHistory h → (r : Request) (digest : List ℕ) (user : Option UserRow) → digest ≡ digest_of r.token → IsUserShowing (tables_of h) digest user
    → user_showing h (digest_of r.token) ≡ user
shows h lawful r digest user is showing = sym (shower_is h lawful digest user showing ∙ ap (user_showing h) is)

-- ---- what a request comes to, by its kind

module _ (old new : State) (caller : UserRow) (a b : Ask) (is : b ≡ a) where
  for_same : (told : Result Judgement Refusal) → JudgesFor old new told (Some caller) a → JudgesFor old new told (Some caller) b
  for_same told judged = subst (JudgesFor old new told (Some caller)) (sym is) judged

  -- what changes something is allowed
  pub changes : (decided : Result Allowed Refusal) → JudgesChange old new decided caller a → IfOk decided (IsAskedBy a)
      → (told : Result Judgement Refusal) → told ≡ allowed_of decided → JudgesFor old new told (Some caller) b
  changes (Ok allowed) judged asked told same =
      for_same told (subst (λ t. JudgesFor old new t (Some caller) a) (sym same) (record {
        judged = judged_as (λ h. verdict_of h (Some caller) a) old new allowed (judgements.Allowed allowed) (λ h found. found) judged;
        asked = asked;
      }))
  changes (Err refusal) judged asked told same =
      for_same told (subst (λ t. JudgesFor old new t (Some caller) a) (sym same) (record { judged = refused_as (λ h. verdict_of h (Some caller) a) old new refusal judged; asked = tt }))

-- a stranger is refused by the first rule
pub judged_stranger : (s : State) (a : Ask) (refusal : Refusal) → refusal ≡ refusals.Denied (record { number = 1; rule = CallerUnknown }) None → IsIdle s
    → JudgesFor s s (Err refusal) None a
judged_stranger s a refusal is idle = subst (λ r. JudgesFor s s (Err r) None a) (sym is) (record {
  judged = refused_at_once (λ h. verdict_of h None a) s (record { number = 1; rule = CallerUnknown }) None idle (λ h lawful. stranger h a);
  asked = tt;
})

-- the caller who was found is the one who shows the token
pub comes_as : (first judge : History → Verdict) (h : History) (IsFirst IsCaller : History → UserRow → Type 0) → first h ≡ judge h → ((user : UserRow) → IsFirst h user → IsCaller h user)
    → (told : Judgement) → ComesTo first IsFirst h told → ComesTo judge IsCaller h told
comes_as first judge h IsFirst IsCaller is shows (judgements.Answered (Done reply)) comes = sym is ∙ comes
comes_as first judge h IsFirst IsCaller is shows (judgements.Answered (Denied d fault)) comes = absurd comes
comes_as first judge h IsFirst IsCaller is shows (judgements.Answered (Fault fault)) comes = absurd comes
comes_as first judge h IsFirst IsCaller is shows (judgements.Allowed allowed) comes = record {
  caller = shows allowed.caller comes.caller;
  verdict = sym is ∙ comes.verdict;
  next = comes.next;
}
