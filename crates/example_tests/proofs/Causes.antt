-- What an office refuses that is a history, and when it is no other.
use Rattle.std.proofs.Common.{◌≡◌, ◌⊎◌, inl, inr, ℕ, length, Some, None, refl, sym, ap, subst, arith}
use Rattle.review_policy.specs.declared.ask.Request.{Request}
use Rattle.review_policy.specs.declared.answer.Reply.{Reply}
use Rattle.office_words.specs.declared.fault.Fault.{Fault}
use Rattle.office_words.specs.declared.fault.Fault.TheVariants.{NoMemory}
use Rattle.office_policy.specs.Handled.{AreBegun, HasRisen, IsMet, IsUnwritten, LacksMemory, RefusesEvent}
use Rattle.office_policy.specs.History.{Event, History}
use Rattle.office_policy.specs.Verdict.{Verdict, accepted, denied, verdict}
use Rattle.example_tests.specs.Examples.{Sketch, counting, enrolment, founding, grown, maybe_grown, quiet, refusing}
use Rattle.no_memory.specs.Witness.{witness}

pub other_history : enrolment ≡ founding → ⊥
other_history is = let k : ◌≡◌ {A = ℕ} 2 1 = ap (λ (h : History). length h) is in absurd (omega (arith, k))

pub not_risen : HasRisen 3 3 → ⊥
not_risen risen = omega (arith, risen)

-- ---- what is refused

refuses_none : (x : Sketch) (h : History) (v : Verdict) (f : Fault) → RefusesEvent quiet x h v f → ⊥
refuses_none x h (accepted reply (Some e)) f is = is
refuses_none x h (accepted reply None) f is = is
refuses_none x h (denied denial told) f is = is

pub refuses_other : (one f : Fault) → (f ≡ one → ⊥) → (x : Sketch) (h : History) (v : Verdict) → RefusesEvent (refusing one) x h v f → ⊥
refuses_other one f apart x h (accepted reply (Some e)) is = apart is
refuses_other one f apart x h (accepted reply None) is = is
refuses_other one f apart x h (denied denial told) is = is

pub unmet : (x y : Sketch) (h : History) (r : Request) (f : Fault) → (HasRisen x.faults y.faults → ⊥) → IsMet quiet x y h r f → ⊥
unmet x y h r f still (inl risen) = still risen
unmet x y h r f still (inr refuses) = refuses_none x h (verdict h r) f refuses

pub unmet_other : (one f : Fault) → (f ≡ one → ⊥) → (x y : Sketch) (h : History) (r : Request) → (HasRisen x.faults y.faults → ⊥) → IsMet (refusing one) x y h r f → ⊥
unmet_other one f apart x y h r still (inl risen) = still risen
unmet_other one f apart x y h r still (inr refuses) = refuses_other one f apart x h (verdict h r) refuses

pub refuses_one : (f : Fault) (x : Sketch) (h : History) (v : Verdict) (reply : Reply) (e : Event) → v ≡ accepted reply (Some e) → RefusesEvent (refusing f) x h v f
refuses_one f x h v reply e is = subst (λ v. RefusesEvent (refusing f) x h v f) (sym is) refl

-- ---- what is unwritten

pub not_written : IsUnwritten quiet (counting 3) (grown 3) → ⊥
not_written none = other_history none.0

pub not_in_doubt : IsUnwritten quiet (counting 3) (maybe_grown 3) → ⊥
not_in_doubt none = by (none.1 enrolment (inr refl))
  where
    by : (enrolment ≡ founding) ⊎ (enrolment ≡ founding) → ⊥
    by (inl is) = other_history is
    by (inr is) = other_history is

-- it begins to write no event down
pub none_begun : (h : History) (v : Verdict) (left : History) → AreBegun quiet h v left → ⊥
none_begun h (accepted reply (Some e)) left begun = begun
none_begun h (accepted reply None) left begun = begun
none_begun h (denied denial told) left begun = begun

-- there was memory where something was written and nothing is refused
pub memory_there : (y : Sketch) (h : History) (r : Request) → (IsUnwritten quiet (counting 3) y → ⊥) → LacksMemory quiet (counting 3) y h r → ⊥
memory_there y h r written (inl none) = written (
  none.0,
  λ left may. elim (none.1 left may) [
    | inl before ↦ before
    | inr begun ↦ absurd (none_begun h (verdict h r) left begun)
  ],
)
memory_there y h r written (inr refuses) = refuses_none (counting 3) h (verdict h r) (NoMemory witness) refuses
