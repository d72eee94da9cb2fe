-- What a look at an office between two events of its journal leaves and finds.
use Rattle.std.proofs.Common.{ℕ, List, Option, Ok}
use Rattle.office_policy.specs.History.{Event, History}
use Rattle.office_policy.specs.Meaning.{Meaning}
use Rattle.review_office.specs.Looking.{HasLooked}
use Rattle.journal.specs.Told.{Place, history_told}
use Rattle.journal_office.specs.Rebuilt.{HasReplayed}

-- what has happened again has so still
pub looked_on : {X A : Type 0} (m : Meaning X) (bytes : Option (List ℕ)) (here : Place) (es : List (ℕ × Event)) (old new : X) (Found : History → A → Type 0) (a : A)
    → HasReplayed bytes m here es old → HasLooked m old new Found (Ok a) → HasReplayed bytes m here es new
looked_on m bytes here es old new Found a before looked = record {
  told = before.told;
  lawful = λ clean. before.lawful (looked.leaves.survives.clean clean);
  stands = λ clean. looked.stands (history_told es) (before.stands (looked.leaves.survives.clean clean)).is_of clean;
}
