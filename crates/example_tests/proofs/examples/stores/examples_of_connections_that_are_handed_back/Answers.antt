use Rattle.std.proofs.Common.{◌≡◌, ◌∙◌, ℕ, true, false, length, refl, sym, ap, arith}
use Rattle.sqlite.specs.Effect.{Database}
use Rattle.sqlite.specs.Schema.{Schema}
use Rattle.office_store.specs.Schema.{no_schema, office_schema}
use Rattle.example_tests.proofs.examples.stores.examples_of_connections_that_are_handed_back.Goals as goal

apart : office_schema ≡ no_schema → ⊥
apart is = let k : ◌≡◌ {A = ℕ} 6 0 = ap (λ (s : Schema). length s.tables) is in absurd (omega (arith, k))

pub returns-clause-same : goal.returns-clause-same
returns-clause-same g c = λ conn settled clean is_open. (refl, refl)

pub returns-clause-shut : goal.returns-clause-shut
returns-clause-shut g c = λ conn after shut settled clean is_open. let k : false ≡ true = sym shut.openness ∙ is_open in absurd (cc)

pub returns-clause-changed : goal.returns-clause-changed
returns-clause-changed g c = λ conn after rest was stays clean is back.
    apart (sym is ∙ ap (λ (d : Database). d.schema) (back rest.settled clean stays.openness).0 ∙ was)

pub returns-clause-committed : goal.returns-clause-committed
returns-clause-committed g c = λ conn after rest was stays clean is back.
    apart (sym is ∙ ap (λ (d : Database). d.schema) (back rest.settled clean stays.openness).1 ∙ was)
