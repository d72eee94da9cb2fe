-- The first line of a journal, and what it tells.
use Rattle.std.proofs.Common.{◌≡◌, ℕ, ◌+◌, List, ◌++◌, ◌∷◌, Option, Some, None, refl}
use Rattle.std.specs.Prelude.{option_and_then, option_map}
use Rattle.office_policy.specs.History.{Event}
use Rattle.journal.specs.Journal.{taken}
use Rattle.journal.specs.Lines.{Line}
use Rattle.journal.specs.Told.{standing, told}

-- ---- what the first of the lines tells

pub record IsFirst (before : ℕ) (held : Option Event) (line : Line) (lines : List Line) (es : List (ℕ × Event)) : Type 0 where
  pub by : Option Event × Option Event
  pub taken : taken before held line ≡ Some by
  pub rest : List (ℕ × Event)
  pub tells : told (before + 1) by.1 lines ≡ Some rest
  pub parts : es ≡ standing before by.0 ++ rest

pub first_told : (before : ℕ) (held : Option Event) (line : Line) (lines : List Line) (es : List (ℕ × Event)) → told before held (line ∷ lines) ≡ Some es → IsFirst before held line lines es
first_told before held line lines es tells = at (taken before held line) refl tells
  where
    of_rest : (t : Option Event × Option Event) → taken before held line ≡ Some t → (rest : Option (List (ℕ × Event))) → told (before + 1) t.1 lines ≡ rest
        → option_map (λ es. standing before t.0 ++ es) rest ≡ Some es → IsFirst before held line lines es
    of_rest t is None tells_none given = cc
    of_rest t is (Some rest) tells given = record { by = t; taken = is; rest = rest; tells = tells; parts = cc }

    at : (o : Option (Option Event × Option Event)) → taken before held line ≡ o
        → option_and_then (λ t. option_map (λ es. standing before t.0 ++ es) (told (before + 1) t.1 lines)) o ≡ Some es → IsFirst before held line lines es
    at None is given = cc
    at (Some t) is given = of_rest t is (told (before + 1) t.1 lines) refl given
