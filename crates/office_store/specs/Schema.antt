-- The six tables of an office and their indexes, as SQL reads them.
use Rattle.std.specs.Prelude.{ℕ, true, false, List, [], ◌∷◌, map, Option, None, Some, codes}
use Rattle.sqlite.specs.Collation.TheVariants.{Binary}
use Rattle.sqlite.specs.declared.types.Value.TheVariants.{Null}
use Rattle.sqlite.specs.Table.{Table}
use Rattle.sqlite.specs.Schema.{Schema}
use Rattle.sqlite.specs.Kind.{Kind}
use Rattle.sqlite.specs.Kind.TheVariants.{Integer, Text, Blob}
use Rattle.sqlite.specs.Change.{created, indexed}
use Rattle.sqlite_value.specs.Keys.{plain}
use Rattle.sqlite_schema.specs.declared.schema.Column.{Column}
use Rattle.sqlite_schema.specs.declared.schema.Index.{Index}

-- a column of a STRICT table that is NOT NULL
abbrev pub column : List ℕ → Kind → Column
column name kind = record {
  name = name;
  kind = kind;
  is_strict = true;
  not_null = true;
  default = Null;
  collation = Binary;
}

abbrev pub integer_column : List ℕ → Column
integer_column name = column name Integer

abbrev pub text_column : List ℕ → Column
text_column name = column name Text

abbrev pub blob_column : List ℕ → Column
blob_column name = column name Blob

-- a table with its tree, its columns, the column that is its rowid, its primary key and its keys
abbrev pub table : List ℕ → ℕ → List Column → Option ℕ → List ℕ → List (List ℕ) → Table
table name tree columns key primary uniques = record {
  name = name;
  tree = tree;
  columns = columns;
  key = key;
  primary = primary;
  uniques = uniques;
  orders = map (λ _. plain) uniques;
  checks = [];
  references = [];
  computed = [];
  stamps = record { places = []; terms = []; formats = [] };
  is_counted = false;
}

-- Each key that is no rowid has a tree of its own after that of its table.
abbrev pub office_table : ℕ → Table
office_table tree =
    table (codes "office") tree
    (integer_column (codes "key") ∷ integer_column (codes "schema")
    ∷ integer_column (codes "listed") ∷ [])
    (Some 0) (0 ∷ []) []

abbrev pub users_table : ℕ → Table
users_table tree =
    table (codes "users") tree
    (text_column (codes "name") ∷ text_column (codes "team") ∷ integer_column (codes "roles")
    ∷ blob_column (codes "token") ∷ [])
    None (1 ∷ []) ((1 ∷ []) ∷ (4 ∷ []) ∷ [])

abbrev pub revisions_table : ℕ → Table
revisions_table tree =
    table (codes "revisions") tree
    (text_column (codes "team") ∷ text_column (codes "profile") ∷ integer_column (codes "number")
    ∷ text_column (codes "author") ∷ integer_column (codes "state") ∷ text_column (codes "body")
    ∷ blob_column (codes "digest") ∷ [])
    None (1 ∷ 2 ∷ 3 ∷ []) ((1 ∷ 2 ∷ 3 ∷ []) ∷ [])

abbrev pub votes_table : ℕ → Table
votes_table tree =
    table (codes "votes") tree
    (text_column (codes "team") ∷ text_column (codes "profile") ∷ integer_column (codes "number")
    ∷ text_column (codes "voter") ∷ integer_column (codes "approve")
    ∷ integer_column (codes "security") ∷ [])
    None (1 ∷ 2 ∷ 3 ∷ 4 ∷ []) ((1 ∷ 2 ∷ 3 ∷ 4 ∷ []) ∷ [])

abbrev pub baselines_table : ℕ → Table
baselines_table tree =
    table (codes "baselines") tree
    (text_column (codes "team") ∷ text_column (codes "profile") ∷ integer_column (codes "number")
    ∷ [])
    None (1 ∷ []) ((1 ∷ []) ∷ [])

abbrev pub holds_table : ℕ → Table
holds_table tree =
    table (codes "holds") tree (text_column (codes "team") ∷ text_column (codes "profile") ∷ [])
    None (1 ∷ 2 ∷ []) ((1 ∷ 2 ∷ []) ∷ [])

abbrev pub no_schema : Schema
no_schema = record { tables = []; indexes = []; views = [] }

-- as the texts of the five tables of schema 1 make it, one after the other
abbrev pub old_schema : Schema
old_schema =
    created (created (created (created (created no_schema (office_table 0)) (users_table 0))
    (revisions_table 0)) (votes_table 0)) (baselines_table 0)

-- with the sixth, which holds profiles
abbrev pub tables_schema : Schema
tables_schema = created old_schema (holds_table 0)

-- an index of these columns of the revisions, each in rising order
abbrev pub revisions_index : List ℕ → List ℕ → Index
revisions_index name columns = record {
  name = name;
  tree = 0;
  table = 4;
  columns = columns;
  order = plain;
  is_unique = false;
}

abbrev pub by_state : Index
by_state = revisions_index (codes "revisions_by_state") (1 ∷ 2 ∷ 5 ∷ 3 ∷ [])

abbrev pub by_author : Index
by_author = revisions_index (codes "revisions_by_author") (1 ∷ 2 ∷ 4 ∷ [])

-- with the two indexes, one after the other
abbrev pub office_schema : Schema
office_schema =
    indexed (indexed tables_schema (revisions_table 4) by_state) (revisions_table 4) by_author
