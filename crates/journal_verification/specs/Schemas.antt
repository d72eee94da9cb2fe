-- Schemas with no rule beyond those of columns and keys.
use Rattle.std.specs.Prelude.{◌≡◌, []}
use Rattle.std.specs.List.{AllByRecursion}
use Rattle.sqlite.specs.declared.types.Value.TheVariants.{Null}
use Rattle.sqlite.specs.Schema.{Schema}
use Rattle.sqlite.specs.Table.{Table}

-- the table has no CHECK, no foreign key and no default
pub record IsBare (t : Table) : Type 0 where
  pub checks : t.checks ≡ []
  pub references : t.references ≡ []
  pub computed : t.computed ≡ []
  pub places : t.stamps.places ≡ []
  pub terms : t.stamps.terms ≡ []
  pub formats : t.stamps.formats ≡ []

pub record HaveSameColumns (s t : Table) : Type 0 where
  pub name : s.name ≡ t.name
  pub tree : s.tree ≡ t.tree
  pub columns : s.columns ≡ t.columns
  pub plain : AllByRecursion (λ c. c.default ≡ Null) s.columns
  pub key : s.key ≡ t.key

pub record HaveSameKeys (s t : Table) : Type 0 where
  pub primary : s.primary ≡ t.primary
  pub uniques : s.uniques ≡ t.uniques
  pub orders : s.orders ≡ t.orders
  pub is_counted : s.is_counted ≡ t.is_counted

pub record IsPlainTable (t : Table) : Type 0 where
  pub bare : IsBare t
  pub columns : AllByRecursion (λ c. c.default ≡ Null) t.columns

-- all tables of the schema are plain, and it has no view
pub record IsPlain (s : Schema) : Type 0 where
  pub tables : AllByRecursion IsPlainTable s.tables
  pub views : s.views ≡ []
