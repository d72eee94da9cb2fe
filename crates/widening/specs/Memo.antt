-- What is known of which entries imply which others.
use Rattle.std.specs.Prelude.{◌≡◌, ℕ, ◌<◌, List, Bool, Option, None, IfSome, get_or, length}
use Rattle.std.specs.declared.vec.Vec.{Vec}
use Rattle.seccomp_doc.specs.Filter.{EntryValue}
use Rattle.implication.specs.Implication.{entry_implies}

-- what is known at the place of another entry is whether the entry implies it
abbrev pub IsRow : EntryValue → List EntryValue → List (Option Bool) → Type 0
IsRow entry others row =
    (place : ℕ) (other : EntryValue) → place < length row →
    IfSome (get_or row place None) (λ told. told ≡ entry_implies entry (get_or others place other))

-- a row tells whether the entry implies others, and has either no place or those of all others
pub record IsRowOrEmpty (entry : EntryValue) (others : List EntryValue)
    (row : List (Option Bool)) : Type 0 where
  pub tells : IsRow entry others row
  pub full : 0 < length row → length row ≡ length others

-- each entry has a row
pub record AreRows {A : Type 0} (entries others : List EntryValue)
    (rows : List (Vec (Option Bool) A)) : Type 0 where
  pub count : length rows ≡ length entries
  pub each : (place : ℕ) (entry : EntryValue) (row : Vec (Option Bool) A) → place < length rows →
      IsRowOrEmpty (get_or entries place entry) others (get_or rows place row).items

-- the rows of the new entries and those of the baseline's
pub record IsMemo {A : Type 0} (base new : List EntryValue)
    (of_new of_base : List (Vec (Option Bool) A)) : Type 0 where
  pub new_rows : AreRows new base of_new
  pub base_rows : AreRows base new of_base
