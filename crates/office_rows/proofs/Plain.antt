-- The query of one table by tests on its columns, and what a text means under a schema.
use Rattle.std.proofs.Common.{◌≡◌, List, [], Some, None, Bool, true, false, ℕ, pos, negsuc, refl}
use Rattle.sqlite.specs.declared.types.Value.TheVariants.{Int}
use Rattle.sqlite.specs.Ops.{is_true, from_truth}
use Rattle.sqlite.specs.Term.{Term, lit}
use Rattle.sqlite.specs.Query.{Query, inner, end}
use Rattle.sqlite.specs.Schema.{Schema}
use Rattle.sqlite.specs.Command.{Command}
use Rattle.sqlite.specs.Listing.{understood, reads_listing}
use Rattle.sqlite.proofs.Callers.{IsPlain, command_of}

abbrev pub plain_query : List Term → List Term → ℕ → Query
plain_query project filter tree = record {
  from = inner tree end;
  filter = filter;
  group = None;
  project = project;
  distinct = false;
  collations = [];
  order = [];
  limit = lit (Int (negsuc 0));
  offset = lit (Int (pos 0));
}

-- the text is this command, which shows no rows but those of its query and reads no list of the tables
pub record Means (schema : Schema) (sql : List ℕ) (command : Command) : Type 0 where
  pub is : command_of (understood schema sql) ≡ command
  pub plain : IsPlain (understood schema sql)
  pub unlisted : reads_listing schema sql ≡ false

-- a test passes where it is true
pub from_test : (b : Bool) → is_true (from_truth (Some b)) ≡ b
from_test true = refl
from_test false = refl
