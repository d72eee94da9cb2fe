-- Answers that are no fault are those of the verdict.
use Rattle.std.proofs.Common.{◌≡◌, ℕ, List, Option, sym, ap}
use Rattle.review_policy.specs.declared.ask.Request.{Request}
use Rattle.review_policy.specs.declared.answer.Answer.TheVariants.{Done, Denied}
use Rattle.review_policy.specs.declared.answer.Reply.{Reply}
use Rattle.review_policy.specs.declared.denial.Denial.{Denial}
use Rattle.office_policy.specs.History.{Event, History}
use Rattle.office_policy.specs.Verdict.{Verdict, accepted, denied, verdict}
use Rattle.office_policy.specs.Runs.{IsAnswer, answer_of}

-- what is done was accepted
pub accepted_is : (h : History) (r : Request) (reply : Reply) → IsAnswer h r (Done reply) → (e : Option Event) × (verdict h r ≡ accepted reply e)
accepted_is h r reply is = by_verdict (verdict h r) is
  where
    by_verdict : (v : Verdict) → Done reply ≡ answer_of v → (e : Option Event) × (v ≡ accepted reply e)
    by_verdict (accepted told e) is = let same : told ≡ reply = cc in (e, ap (λ x. accepted x e) same)
    by_verdict (denied d f) is = absurd (cc)

pub accepted_told : (h : History) (r : Request) (reply : Reply) (e : Option Event) → verdict h r ≡ accepted reply e → IsAnswer h r (Done reply)
accepted_told h r reply e is = sym (ap answer_of is)

-- and what is denied was denied
pub denied_is : (h : History) (r : Request) (d : Denial) (f : Option (List ℕ)) → IsAnswer h r (Denied d f) → verdict h r ≡ denied d f
denied_is h r d f is = by_verdict (verdict h r) is
  where
    by_verdict : (v : Verdict) → Denied d f ≡ answer_of v → v ≡ denied d f
    by_verdict (accepted told e) is = absurd (cc)
    by_verdict (denied other fault) is = cc

pub denied_told : (h : History) (r : Request) (d : Denial) (f : Option (List ℕ)) → verdict h r ≡ denied d f → IsAnswer h r (Denied d f)
denied_told h r d f is = sym (ap answer_of is)
