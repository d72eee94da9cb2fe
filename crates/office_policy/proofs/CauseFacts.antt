-- The cause of a fault in a call after which nothing more was written, and requests that are handled one after the other.
use Rattle.std.proofs.Common.{inl, inr, ◌≤◌, ℕ, List, [], ◌∷◌, ◌++◌, arith, refl, subst}
use Rattle.review_policy.specs.declared.ask.Request.{Request}
use Rattle.review_policy.specs.declared.answer.Answer.{Answer}
use Rattle.review_policy.specs.declared.answer.Answer.TheVariants.{Done, Denied, Fault}
use Rattle.office_words.specs.declared.fault.Fault.{Fault as TheFault}
use Rattle.office_words.specs.declared.fault.Fault.TheVariants as faults
use Rattle.office_policy.specs.History.{History}
use Rattle.office_policy.specs.Verdict.{Verdict, verdict}
use Rattle.office_policy.specs.Meaning.{Meaning}
use Rattle.office_policy.specs.Handled.{HasRisen, IsMet, LeavesUndone, IsUnwritten, HasCause, IsHandled}
use Rattle.office_policy.specs.Ran.{HandlesEach}

risen_before : (a b c : ℕ) → HasRisen a b → b ≤ c → HasRisen a c
risen_before a b c risen after = omega (arith, risen, after)

module _ {X : Type 0} (m : Meaning X) where
  met_before : (old mid new : X) (h : History) (r : Request) (fault : TheFault) → m.faults mid ≤ m.faults new → IsMet m old mid h r fault → IsMet m old new h r fault
  met_before old mid new h r fault after (inl risen) = inl (risen_before (m.faults old) (m.faults mid) (m.faults new) risen after)
  met_before old mid new h r fault after (inr refused) = inr refused

  undone_on : (old mid new : X) (h : History) (v : Verdict) → LeavesUndone m old mid h v → IsUnwritten m mid new → LeavesUndone m old new h v
  undone_on old mid new h v first then = (m.keeps_on old mid new first.0 then.0, λ left may. first.1 left (then.1 left may))

  -- a call after which nothing was written
  pub cause_before : (old mid new : X) (h : History) (r : Request) (a : Answer) → IsUnwritten m mid new → m.faults mid ≤ m.faults new → HasCause m old mid h r a → HasCause m old new h r a
  cause_before old mid new h r (Done reply) then after cause = tt
  cause_before old mid new h r (Denied denial fault) then after cause = tt
  cause_before old mid new h r (Fault (faults.NoMemory _)) then after (inl undone) = inl (undone_on old mid new h (verdict h r) undone then)
  cause_before old mid new h r (Fault (faults.NoMemory _)) then after (inr refused) = inr refused
  cause_before old mid new h r (Fault faults.Disk) then after cause = λ is_open. met_before old mid new h r faults.Disk after (cause is_open)
  cause_before old mid new h r (Fault faults.Full) then after cause = met_before old mid new h r faults.Full after cause
  cause_before old mid new h r (Fault faults.NotAnOffice) then after cause = cause

  -- and one more is handled
  pub each_more : (old mid new : X) (rs : List Request) (told : List Answer) (r : Request) (a : Answer) → HandlesEach m old mid rs told → IsHandled m mid new r a → HandlesEach m old new (rs ++ r ∷ []) (told ++ a ∷ [])
  each_more old mid new [] [] r a each handled = (new, subst (λ x. IsHandled m x new r a) each handled, refl)
  each_more old mid new (x ∷ rs) (b ∷ told) r a each handled = (each.0, each.1, each_more each.0 mid new rs told r a each.2 handled)
  each_more old mid new [] (b ∷ told) r a each handled = absurd each
  each_more old mid new (x ∷ rs) [] r a each handled = absurd each
