use Rattle.std.proofs.Common.{◌∙◌, ap, refl}
use Rattle.sqlite_pool.specs.Pool.{state}
use Rattle.sqlite_trees.specs.Objects.{catalog_tree}
use Rattle.sqlite_trees.specs.Tree.{Trees}
use Rattle.sqlite_trees.specs.View.{doubt}
use Rattle.memory_database.proofs.EmptyFacts.{fails_for_memory, schema_of_none}
use Rattle.memory_database.proofs.MemoryFacts.{memory_is_clean}
use Rattle.memory_database.proofs.open.connect.Goals as goal

pub returns-in-Ok-clause-empty : goal.returns-in-Ok-clause-empty
returns-in-Ok-clause-empty c =
    let clean = memory_is_clean c.in-Ok.conn in
    let both = c.in-Ok.ensures.opens clean in
    let none = ap (λ (t : Trees). t catalog_tree) (c.in-Ok.ensures.trees clean) ∙ c.requires.none in
    (both.0, both.1, schema_of_none _ _ none (both.1 both.0.is_open).0)

pub returns-clause-memory : goal.returns-clause-memory
unfolding doubt state
returns-clause-memory c = fails_for_memory _ _ c.in-Err.error c.requires.none c.in-Err.ensures.told (c.in-Err.ensures.err refl)
