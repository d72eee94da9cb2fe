use Rattle.std.proofs.Common.{◌≡◌, ◌∙◌, length, IsTrue, refl, ap, inl, subst, sym, arith}
use Rattle.std.proofs.lemmas.List.Elements.{All-nil}
use Rattle.sqlite_pool.specs.Pool.{state}
use Rattle.sqlite_store.specs.Build.{CanBuild}
use Rattle.sqlite_store.specs.Unopened.{CanCreate, StopsCreating, state_of}
use Rattle.sqlite_store.specs.FileStore.{IsReady, schema_of, view}
use Rattle.sqlite_store.specs.Opening.{FailsToOpen}
use Rattle.sqlite_store.specs.declared.error.OpenError.TheVariants.{Refused}
use Rattle.memory_database.proofs.MemoryFacts.{has_no_table}
use Rattle.memory_database.proofs.open.new_store.Goals as goal

pub returns-in-Ok : goal.returns-in-Ok
returns-in-Ok c =
    let is = c.new-in-Ok.ensures in
    let made = c.in-Ok.ensures in
    has_no_table c.new-in-Ok.result (subst IsReady (sym is) made.ready) (subst (λ s. IsTrue (view s).is_numbered) (sym is) made.numbered)
    (ap schema_of is ∙ made.schema ∙ c.in_ok-unopened.ensures.schema)

pub unreachable-requires : goal.unreachable-requires
unfolding state
unreachable-requires c =
    let none = c.in_ok-unopened.ensures.schema in
    let it = c.in_ok-unopened.unopened in
    let left = c.in-Err-Refused-default.field-0-1 in
    let refused : c.in-Err-Refused-default.field-0-0 ≡ Refused = cc in
    let never = subst (FailsToOpen (state_of it).faults (state_of left).faults (StopsCreating left) (CanCreate it)) refused (c.in-Err-Refused-default.ensures.cause refl) in
    never (record {
      few = rw none (omega arith);
      schema = subst CanBuild (sym none) (record { distinct = refl; shaped = All-nil _; short = All-nil _ });
      files = inl (inl (ap (λ f. length f.1.bytes.items) (c.in_ok-unopened.ensures.files ∙ c.in_ok-pager.ensures.files) ∙ ap length c.new-3.ensures.bytes));
    })
