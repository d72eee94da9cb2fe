-- What an office over a store is to those who see no store.
use Rattle.std.specs.Prelude.{◌∷◌, IsTrue}
use Rattle.std.proofs.Common.{◌≡◌, ◌∙◌, sym, refl}
use Rattle.sqlite.specs.Held.{Held, state}
use Rattle.sqlite.specs.Store.{Ghosts}
use Rattle.sqlite.specs.State.{State, HasCleanDisk}
use Rattle.sqlite_trees.specs.Tree.{Trees}
use Rattle.office_rows.specs.Queries.{IsAsItWas}
use Rattle.office_words.specs.declared.fault.Fault.{Fault}
use Rattle.office_store.specs.Refusing.{RefusesToMake}
use Rattle.office_store.specs.Shown.{AreOffice}
use Rattle.office_policy.specs.Meaning.{Meaning}
use Rattle.office_policy.specs.TablesOf.{tables_of}
use Rattle.review_office.specs.Offices.{IsOffice}

-- a connection that is open was open, and has what it had
pub record Keeps (old new : State) : Type 0 where
  pub shut : IsTrue new.is_open → IsTrue old.is_open
  pub same : old.now ≡ old.committed → IsAsItWas old new

pub keeps_itself : (s : State) → Keeps s s
keeps_itself s = record { shut = λ is_open. is_open; same = λ settled is_open. (refl, refl) }

pub keeps_on : (s t u : State) → Keeps s t → Keeps t u → Keeps s u
keeps_on s t u first then = record {
  shut = λ is_open. first.shut (then.shut is_open);
  same = λ settled is_open.
      let kept = first.same settled (then.shut is_open) in
      let between : t.now ≡ t.committed = kept.0 ∙ settled ∙ sym kept.1 in
      let last = then.same between is_open in
      (last.0 ∙ kept.0, last.1 ∙ kept.1);
}

-- the meaning of an office is that of its connection; it writes no event down before it happens
abbrev pub meaning_over : {S : Type 0} → Ghosts S → Meaning (Held S)
meaning_over g = record {
  is_clean = λ x. HasCleanDisk (state g x);
  is_open = λ x. IsTrue (state g x).is_open;
  faults = λ x. (state g x).faults;
  refuses = λ x h e fault. RefusesToMake g x (tables_of h) (tables_of (e ∷ h)) fault;
  is_of = λ h x. IsOffice h (state g x);
  keeps = λ x y. Keeps (state g x) (state g y);
  is_stray = λ e x. ⊥;
  adds = λ entry x y. Unit {0};
  grows = λ x y. Unit {0};
  Left = Trees;
  may_leave = λ x trees. (state g x).may_leave trees;
  are_of = λ h trees. AreOffice trees (tables_of h);
  are_begun = λ h e trees. ⊥;
  lawful = λ h x office. office.lawful;
  keeps_itself = λ x. keeps_itself (state g x);
  keeps_on = λ x y z. keeps_on (state g x) (state g y) (state g z);
  adds_none = λ x. tt;
  adds_on = λ entry x y z first then. tt;
  grows_itself = λ x. tt;
  grows_on = λ x y z first then. tt;
  strays_shut = λ e x none. absurd none;
}
