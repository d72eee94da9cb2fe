-- What a crash may leave of an office after requests, by what it might leave before them.
use Rattle.std.specs.Prelude.{◌≡◌, ◌⊎◌, ℕ, List, ◌∷◌, Some, slice_get}
use Rattle.review_policy.specs.declared.ask.Request.{Request}
use Rattle.review_policy.specs.declared.answer.Answer.{Answer}
use Rattle.review_policy.specs.declared.answer.Answer.TheVariants as answered
use Rattle.office_words.specs.declared.fault.Fault.{Fault}
use Rattle.office_policy.specs.History.{History}
use Rattle.office_policy.specs.Verdict.{verdict}
use Rattle.office_policy.specs.Runs.{history_after}
use Rattle.office_policy.specs.Meaning.{Meaning}
use Rattle.office_policy.specs.Handled.{AreInPart}

module _ {X : Type 0} (m : Meaning X) where
  -- after a fault it may leave what it might leave before, or the office with the event of the
  -- verdict or what was begun of that; after any other answer the office of the history after it, and no
  -- other
  abbrev pub LeftAfterOne : (m.Left → Type 0) → History → Request → Answer → m.Left → Type 0
  LeftAfterOne Before h r (answered.Fault fault) left =
      Before left ⊎ AreInPart m h (verdict h r) left
  LeftAfterOne Before h r answer left = m.are_of (history_after h r answer) left

  -- what may be left after requests that were answered one after the other
  abbrev pub LeftAfter : (m.Left → Type 0) → History → List Request → List Answer → m.Left → Type 0
  LeftAfter Before h (request ∷ requests) (answer ∷ answers) =
      LeftAfter (LeftAfterOne Before h request answer) (history_after h request answer)
      requests answers
  LeftAfter Before h _ _ = Before

  -- what is left is the office with the event of one of the requests, which was answered by a fault, or
  -- with what was begun of that event
  pub record AreOfFaulty
      (h : History) (requests : List Request) (answers : List Answer)
      (left : m.Left) : Type 0 where
    pub at : ℕ
    pub request : Request
    pub fault : Fault
    pub asked : slice_get requests at ≡ Some request
    pub told : slice_get answers at ≡ Some (answered.Fault fault)
    pub in_part : AreInPart m h (verdict h request) left

  -- what is left is the office of the history, or of that with one event more, or a begun one, of a
  -- request answered by a fault
  abbrev pub AreLeft : History → List Request → List Answer → m.Left → Type 0
  AreLeft h requests answers left = m.are_of h left ⊎ AreOfFaulty h requests answers left
