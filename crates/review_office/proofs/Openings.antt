-- A connection that is tried as an office, and handed back; and an office that was migrated.
use Rattle.std.proofs.Common.{◌≡◌, Bool, true, false, refl, sym, subst}
use Rattle.sqlite.specs.Held.{Held, state}
use Rattle.sqlite.specs.Store.{Ghosts}
use Rattle.sqlite.specs.State.{HasCleanDisk}
use Rattle.office_rows.specs.Queries.{IsAsItWas}
use Rattle.office_store.specs.Shown.{IsIdle, LeavesNoMore}
use Rattle.office_policy.specs.Handled.{Stands}
use Rattle.office_policy.specs.History.{History}
use Rattle.office_policy.specs.TablesOf.{tables_of}
use Rattle.review_office.specs.Meant.{meaning_over}
use Rattle.review_office.specs.Opened.{Answers, AnswersAll, IsMigrated}

pub either : (b : Bool) (P : Type 0) → (b ≡ true → P) → (b ≡ false → P) → P
either true P when_true when_false = when_true refl
either false P when_true when_false = when_false refl

module _ {S : Type 0} (g : Ghosts S) (old new : Held S) (is : new ≡ old) where
  pub is_as_it_was : IsAsItWas (state g old) (state g new)
  is_as_it_was = subst (λ (x : Held S). IsAsItWas (state g old) (state g x)) (sym is) (λ is_open. (refl, refl))

  pub leaves_no_more : LeavesNoMore (state g old) (state g new)
  leaves_no_more = subst (λ (x : Held S). LeavesNoMore (state g old) (state g x)) (sym is) (λ clean trees may. may)

-- ---- an office that was migrated

module _ {S : Type 0} (g : Ghosts S) (h : History) (office : Held S) (it : IsMigrated g h office) where
  pub stands : HasCleanDisk (state g office) → Stands (meaning_over g) h office
  stands clean =
      let done = it.migration.done (tables_of h) (λ is_open. it.showed) (it.over.clean clean) in
      it.over.stands h it.lawful done.0 clean

  pub answers : Answers g h office
  answers new request answer handled clean = handled.answer h (stands (handled.survives.clean clean)).is_of clean

  pub answers_all : AnswersAll g h office
  answers_all new requests told ran clean = ran.answers h (stands (ran.survives.clean clean)).is_of clean
