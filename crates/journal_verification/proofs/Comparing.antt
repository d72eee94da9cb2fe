-- What comes of comparing two offices.
use Rattle.std.proofs.Common.{inr, ◌≡◌, IsTrue, Option, None, Some, Result, Ok, Err, IfOk, sym, subst, ◌∙◌}
use Rattle.std.specs.Prelude.{OnOk}
use Rattle.sqlite.specs.Effect.{Database}
use Rattle.sqlite.specs.Held.{Held, state}
use Rattle.sqlite.specs.State.{IsLive, IsUnchanged}
use Rattle.sqlite.specs.Store.{Ghosts}
use Rattle.office_words.specs.Tables.{Tables}
use Rattle.office_words.specs.declared.fault.Fault.{Fault}
use Rattle.office_store.specs.Schema.{office_schema}
use Rattle.office_store.specs.Shown.{IsOffice, Shows}
use Rattle.journal_faults.specs.declared.difference.Difference.{Difference}
use Rattle.journal_verification.specs.Compared.{TellsOffice}
use Rattle.journal_verification.specs.Same.{TellsTables}
use Rattle.journal_verification.proofs.Offices.{office_again}

pub told : {S T : Type 0} (g : Ghosts S) (f : Ghosts T) (t : Tables) (built : Held S) (old new : Held T) (r : Result (Option Difference) Fault) → Shows (state g built) t → (state f old).now.schema ≡ office_schema
    → IsLive (state f old) → (IsTrue (state f old).is_open → (state f old).now ≡ (state f old).committed) → OnOk r (IsUnchanged (state f old) (state f new))
    → IfOk r (TellsTables g f (state g built).now (state f old).now) → IfOk r (TellsOffice g f t built old new)
told g f t built old new (Err fault) shows has live settled same tells = tt
told g f t built old new (Ok (Some d)) shows has live settled same tells = inr (has, tells)
told g f t built old new (Ok None) shows has live settled same tells = record {
  is_open = same.0.is_open;
  settled = same.0.now_is ∙ settled same.0.was_open ∙ sym same.0.committed_is;
  office = subst (λ (d : Database). IsOffice d t) (sym same.0.now_is) (office_again g f (state g built).now (state f old).now t shows.office has (live same.0.was_open).0 tells);
}
