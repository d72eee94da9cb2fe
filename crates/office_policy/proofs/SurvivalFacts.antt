-- What survives one call after another.
use Rattle.std.proofs.Common.{inl, inr, ◌≤◌, ◌⊎◌, ℕ, arith, le_trans}
use Rattle.office_policy.specs.History.{Event}
use Rattle.office_policy.specs.Meaning.{Meaning}
use Rattle.office_policy.specs.Handled.{HasRisen, HasStray, Survives}
use Rattle.office_policy.specs.Judging.{LeavesAll}

pub risen_before : (a b c : ℕ) → a ≤ b → HasRisen b c → HasRisen a c
risen_before a b c before risen = omega (arith, before, risen)

pub risen_after : (a b c : ℕ) → HasRisen a b → b ≤ c → HasRisen a c
risen_after a b c risen after = le_trans risen after

pub or_more : {A B C : Type 0} → A ⊎ B → A ⊎ (B ⊎ C)
or_more (inl a) = inl a
or_more (inr b) = inr (inl b)

module _ {X : Type 0} (m : Meaning X) where
  -- one call after another
  pub survives_on : (old mid new : X) → Survives m old mid → Survives m mid new → Survives m old new
  survives_on old mid new first then = record {
    clean = λ clean. first.clean (then.clean clean);
    counts = le_trans first.counts then.counts;
    closes = λ clean is_open.
        elim (first.closes (then.clean clean) is_open) [
          | inl still ↦ elim (then.closes clean still) [
            | inl stays ↦ inl stays
            | inr (inl risen) ↦ inr (inl (risen_before (m.faults old) (m.faults mid) (m.faults new) first.counts risen))
            | inr (inr stray) ↦ inr (inr stray)
          ]
          | inr (inl risen) ↦ inr (inl (risen_after (m.faults old) (m.faults mid) (m.faults new) risen then.counts))
          | inr (inr stray) ↦ inr (inr (stray.0, then.stays stray.0 stray.1))
        ];
    shut = λ clean is_open. first.shut (then.clean clean) (then.shut clean is_open);
    stays = λ e stray. then.stays e (first.stays e stray);
    grows = λ clean. m.grows_on old mid new (first.grows (then.clean clean)) (then.grows clean);
  }

  -- no call
  pub survives_none : (x : X) → Survives m x x
  survives_none x = record {
    clean = λ clean. clean;
    counts = omega arith;
    closes = λ clean is_open. inl is_open;
    shut = λ clean is_open. is_open;
    stays = λ e stray. stray;
    grows = λ clean. m.grows_itself x;
  }

  -- where no stray came only a fault shuts it
  pub closes_by_fault : (old new : X) → Survives m old new → ((e : Event) → m.is_stray e new → m.is_stray e old) → m.is_clean new → m.is_open old
      → m.is_open new ⊎ HasRisen (m.faults old) (m.faults new)
  closes_by_fault old new survives strays clean is_open = elim (survives.closes clean is_open) [
    | inl still ↦ inl still
    | inr (inl risen) ↦ inr risen
    | inr (inr stray) ↦ absurd (m.strays_shut stray.0 old (strays stray.0 stray.1) is_open)
  ]

  -- that holds whatever else may
  pub closes_without : (old new : X) (Else : Type 0) → Survives m old new → ((e : Event) → m.is_stray e new → m.is_stray e old) → m.is_clean new → m.is_open old
      → m.is_open new ⊎ (HasRisen (m.faults old) (m.faults new) ⊎ Else)
  closes_without old new Else survives strays clean is_open = or_more (closes_by_fault old new survives strays clean is_open)

  -- the same where nothing was changed
  pub closes_all : (old new : X) (Else : Type 0) → LeavesAll m old new → m.is_clean new → m.is_open old → m.is_open new ⊎ (HasRisen (m.faults old) (m.faults new) ⊎ Else)
  closes_all old new Else leaves = closes_without old new Else leaves.survives leaves.strays

  -- it is left by no call
  pub left_itself : (x : X) → LeavesAll m x x
  left_itself x = record {
    survives = survives_none x;
    office = λ h of. of;
    kept = λ clean. m.keeps_itself x;
    crash = λ clean left may. may;
    adds = λ clean. m.adds_none x;
    strays = λ e stray. stray;
  }
