-- What a crash may leave after one request more, and after all of them.
use Rattle.std.proofs.Common.{inl, inr, ◌≡◌, ◌⊎◌, suc, List, [], ◌∷◌, ◌++◌, length, refl, sym, subst, arith}
use Rattle.review_policy.specs.declared.ask.Request.{Request}
use Rattle.review_policy.specs.declared.answer.Answer.{Answer}
use Rattle.review_policy.specs.declared.answer.Answer.TheVariants.{Done, Denied, Fault}
use Rattle.office_policy.specs.History.{History}
use Rattle.office_policy.specs.Verdict.{verdict}
use Rattle.office_policy.specs.Runs.{history_after, history_after_all}
use Rattle.office_policy.specs.Meaning.{Meaning}
use Rattle.office_policy.specs.Handled.{LeavesOnly, AreInPart, IsHandled}
use Rattle.office_policy.specs.Left.{LeftAfterOne, LeftAfter, AreOfFaulty, AreLeft}

module _ {X : Type 0} (m : Meaning X) where
  -- what one request leaves, where a crash might leave this before it
  pub left_by_one : (Before : m.Left → Type 0) (old new : X) (h : History) (r : Request) (a : Answer) → IsHandled m old new r a
      → m.is_of h old → m.is_clean new
      → ((rest : m.Left) → m.may_leave old rest → Before rest) → (rest : m.Left) → m.may_leave new rest → LeftAfterOne m Before h r a rest
  left_by_one Before old new h r (Done reply) step office clean before rest may = (step.stands h office clean).leaves rest may
  left_by_one Before old new h r (Denied denial fault) step office clean before rest may = (step.stands h office clean).leaves rest may
  left_by_one Before old new h r (Fault fault) step office clean before rest may =
      elim (step.crash h office clean rest may) [
        | inl left ↦ inl (before rest left)
        | inr left ↦ inr left
      ]

  pub left_more : (Before : m.Left → Type 0) (h : History) (rs : List Request) (told : List Answer) (r : Request) (a : Answer) (rest : m.Left)
      → length told ≡ length rs → LeftAfterOne m (LeftAfter m Before h rs told) (history_after_all h rs told) r a rest
      → LeftAfter m Before h (rs ++ r ∷ []) (told ++ a ∷ []) rest
  left_more Before h [] [] r a rest count left = left
  left_more Before h (x ∷ rs) (b ∷ told) r a rest count left =
      left_more (LeftAfterOne m Before h x b) (history_after h x b) rs told r a rest (omega (arith, count)) left
  left_more Before h [] (b ∷ told) r a rest count left = absurd (omega (arith, count))
  left_more Before h (x ∷ rs) [] r a rest count left = absurd (omega (arith, count))

  -- ---- where a crash could leave only the office before

  later_faulty : (h : History) (x : Request) (rs : List Request) (b : Answer) (told : List Answer) (rest : m.Left)
      → AreOfFaulty m h rs told rest → AreOfFaulty m h (x ∷ rs) (b ∷ told) rest
  later_faulty h x rs b told rest it = record { at = suc it.at; request = it.request; fault = it.fault; asked = it.asked; told = it.told; in_part = it.in_part }

  later : (h : History) (x : Request) (rs : List Request) (b : Answer) (told : List Answer) (rest : m.Left)
      → AreLeft m h rs told rest → AreLeft m h (x ∷ rs) (b ∷ told) rest
  later h x rs b told rest (inl last) = inl last
  later h x rs b told rest (inr it) = inr (later_faulty h x rs b told rest it)

  -- either nothing was carried out or denied, and what could be left before is left, or the last history is
  abbrev IsFrom : (m.Left → Type 0) → History → List Request → List Answer → m.Left → Type 0
  IsFrom Before h rs told rest = (Before rest × (history_after_all h rs told ≡ h)) ⊎ AreLeft m (history_after_all h rs told) rs told rest

  anew : (Before : m.Left → Type 0) (h : History) (x : Request) (rs : List Request) (b : Answer) (told : List Answer) (rest : m.Left)
      → IsFrom (λ (t : m.Left). m.are_of (history_after h x b) t) (history_after h x b) rs told rest
      → IsFrom Before h (x ∷ rs) (b ∷ told) rest
  anew Before h x rs b told rest (inl from) = inr (inl (subst (λ (k : History). m.are_of k rest) (sym from.1) from.0))
  anew Before h x rs b told rest (inr left) =
      inr (later (history_after_all (history_after h x b) rs told) x rs b told rest left)

  left_from : (Before : m.Left → Type 0) (h : History) (rs : List Request) (told : List Answer) (rest : m.Left) → LeftAfter m Before h rs told rest
      → IsFrom Before h rs told rest
  left_from Before h [] told rest left = inl (left, refl)
  left_from Before h (x ∷ rs) [] rest left = inl (left, refl)
  left_from Before h (x ∷ rs) (Done reply ∷ told) rest left =
      anew Before h x rs (Done reply) told rest (left_from (LeftAfterOne m Before h x (Done reply)) (history_after h x (Done reply)) rs told rest left)
  left_from Before h (x ∷ rs) (Denied denial fault ∷ told) rest left =
      anew Before h x rs (Denied denial fault) told rest
      (left_from (LeftAfterOne m Before h x (Denied denial fault)) (history_after h x (Denied denial fault)) rs told rest left)
  left_from Before h (x ∷ rs) (Fault fault ∷ told) rest left =
      elim (left_from (LeftAfterOne m Before h x (Fault fault)) h rs told rest left) [
        | inl from ↦ elim from.0 [
          | inl before ↦ inl (before, from.1)
          | inr written ↦ inr (inr (record {
            at = 0;
            request = x;
            fault = fault;
            asked = refl;
            told = refl;
            in_part = subst (λ (k : History). AreInPart m k (verdict k x) rest) (sym from.1) written;
          }))
        ]
        | inr left ↦ inr (later (history_after_all h rs told) x rs (Fault fault) told rest left)
      ]

  pub left_of_one : (s : X) (h : History) (rs : List Request) (told : List Answer) (rest : m.Left) → LeavesOnly m h s
      → LeftAfter m (m.may_leave s) h rs told rest → AreLeft m (history_after_all h rs told) rs told rest
  left_of_one s h rs told rest only left =
      elim (left_from (m.may_leave s) h rs told rest left) [
        | inl from ↦ inl (subst (λ (k : History). m.are_of k rest) (sym from.1) (only rest from.0))
        | inr it ↦ it
      ]
