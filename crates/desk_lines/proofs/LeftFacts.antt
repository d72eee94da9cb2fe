-- What a crash may leave after one line more, and after all of them.
use Rattle.std.proofs.Common.{inl, inr, ◌≡◌, List, [], ◌∷◌, ◌++◌, refl, sym, subst}
use Rattle.review_policy.specs.declared.answer.Answer.TheVariants.{Done, Denied, Fault}
use Rattle.office_policy.specs.History.{History}
use Rattle.office_policy.specs.Runs.{history_after, history_after_all}
use Rattle.office_policy.specs.Meaning.{Meaning}
use Rattle.office_policy.specs.Handled.{LeavesOnly}
use Rattle.office_policy.specs.Left.{LeftAfterOne, LeftAfter, AreLeft}
use Rattle.office_policy.proofs.LeftFacts.{left_of_one}
use Rattle.desk_lines.specs.declared.outcome.LineOutcome.{LineOutcome}
use Rattle.desk_lines.specs.declared.outcome.LineOutcome.TheVariants.{Bad, NoMemory, Answered}
use Rattle.desk_lines.specs.Outcomes.{history_after_line, history_after_lines, requests_of, answers_of}
use Rattle.desk_lines.specs.Left.{LeavesWithin, LeftAfterLine, LeftAfterLines}

-- lines leave the history that the requests among them leave
after_requests : (h : History) (os : List LineOutcome) → history_after_lines h os ≡ history_after_all h (requests_of os) (answers_of os)
after_requests h [] = refl
after_requests h (Bad fault ∷ os) = after_requests h os
after_requests h ((NoMemory _) ∷ os) = after_requests h os
after_requests h (Answered r a ∷ os) = after_requests (history_after h r a) os

module _ {X : Type 0} (m : Meaning X) where
  pub left_more_lines : (Before : m.Left → Type 0) (h : History) (os : List LineOutcome) (o : LineOutcome) (rest : m.Left)
      → LeftAfterLine m (LeftAfterLines m Before h os) (history_after_lines h os) o rest → LeftAfterLines m Before h (os ++ o ∷ []) rest
  left_more_lines Before h [] o rest left = left
  left_more_lines Before h (x ∷ os) o rest left = left_more_lines (LeftAfterLine m Before h x) (history_after_line h x) os o rest left

  -- what may be left before a line may be more
  pub left_by_more : (Before More : m.Left → Type 0) (h : History) (o : LineOutcome) → ((rest : m.Left) → Before rest → More rest)
      → (rest : m.Left) → LeftAfterLine m Before h o rest → LeftAfterLine m More h o rest
  left_by_more Before More h (Bad fault) more rest left = more rest left
  left_by_more Before More h (NoMemory _) more rest left = more rest left
  left_by_more Before More h (Answered r (Done reply)) more rest left = left
  left_by_more Before More h (Answered r (Denied denial fault)) more rest left = left
  left_by_more Before More h (Answered r (Fault fault)) more rest left =
      elim left [
        | inl before ↦ inl (more rest before)
        | inr written ↦ inr written
      ]

  -- ---- where a crash could leave only the office before

  -- lines leave what the requests among them leave
  left_requests : (Before : m.Left → Type 0) (h : History) (os : List LineOutcome) (rest : m.Left)
      → LeftAfterLines m Before h os rest → LeftAfter m Before h (requests_of os) (answers_of os) rest
  left_requests Before h [] rest left = left
  left_requests Before h (Bad fault ∷ os) rest left = left_requests Before h os rest left
  left_requests Before h ((NoMemory _) ∷ os) rest left = left_requests Before h os rest left
  left_requests Before h (Answered r a ∷ os) rest left = left_requests (LeftAfterOne m Before h r a) (history_after h r a) os rest left

  pub left_within : (old new : X) (h : History) (os : List LineOutcome) → LeavesOnly m h old → LeavesWithin m new (LeftAfterLines m (m.may_leave old) h os)
      → LeavesWithin m new (AreLeft m (history_after_lines h os) (requests_of os) (answers_of os))
  left_within old new h os only crash rest may =
      let after = left_requests (m.may_leave old) h os rest (crash rest may) in
      subst (λ (k : History). AreLeft m k (requests_of os) (answers_of os) rest) (sym (after_requests h os))
      (left_of_one m old h (requests_of os) (answers_of os) rest only after)
