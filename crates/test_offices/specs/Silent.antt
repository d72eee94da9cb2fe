-- A meaning of offices by which nothing is promised of them.
use Rattle.office_policy.specs.Meaning.{Meaning}

-- a meaning by which nothing is the office of a history
abbrev pub silent : {X : Type 0} → Meaning X
silent = record {
  is_clean = λ x. ⊥;
  is_open = λ x. ⊥;
  faults = λ x. 0;
  refuses = λ x h e fault. ⊥;
  is_of = λ h x. ⊥;
  keeps = λ x y. Unit {0};
  is_stray = λ e x. ⊥;
  adds = λ entry x y. Unit {0};
  grows = λ x y. Unit {0};
  Left = Unit {0};
  may_leave = λ x left. ⊥;
  are_of = λ h left. ⊥;
  are_begun = λ h e left. ⊥;
  lawful = λ h x is. absurd is;
  keeps_itself = λ x. tt;
  keeps_on = λ x y z first second. tt;
  adds_none = λ x. tt;
  adds_on = λ entry x y z first second. tt;
  grows_itself = λ x. tt;
  grows_on = λ x y z first second. tt;
  strays_shut = λ e x none. absurd none;
}
