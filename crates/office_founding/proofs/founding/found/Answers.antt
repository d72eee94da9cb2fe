use Rattle.std.proofs.Common.{inl, inr, rules, ◌≡◌, Err, true, false, true≢false, refl, sym, ap, ◌∙◌}
use Rattle.sqlite.specs.Held.{state}
use Rattle.office_words.specs.declared.fault.Fault.TheVariants.{NotAnOffice}
use Rattle.office_founding.specs.Founding.{has_table}
use Rattle.office_store.specs.Schema.{no_schema}
use Rattle.office_store.proofs.Committed.{survives_same}
use Rattle.office_founding.proofs.founding.found.Goals as goal

pub returns-then-has_table-clause-already : goal.returns-then-has_table-clause-already
returns-then-has_table-clause-already g c =
    let has : has_table (state g.S.Store c.args.conn.now).now.schema ≡ true = sym (ap has_table c.schema.ensures.value) ∙ sym c.has_table.ensures ∙ c.if-has_table.true in
    (λ _. has, λ _. refl)

pub returns-then-has_table-clause-foreign : goal.returns-then-has_table-clause-foreign
returns-then-has_table-clause-foreign g c clean =
    let has : has_table (state g.S.Store c.args.conn.now).now.schema ≡ true = sym (ap has_table c.schema.ensures.value) ∙ sym c.has_table.ensures ∙ c.if-has_table.true in
    (λ e. absurd cc, λ other. absurd (true≢false (sym has ∙ other.0)))

pub returns-then-has_table-clause-cause : goal.returns-then-has_table-clause-cause
returns-then-has_table-clause-cause g c clean = sym (ap has_table c.schema.ensures.value) ∙ sym c.has_table.ensures ∙ c.if-has_table.true

pub returns-then-has_table-clause-crash : goal.returns-then-has_table-clause-crash
returns-then-has_table-clause-crash g c = survives_same (state g.S.Store c.args.conn.now) _

pub returns-then-not-is_empty-clause-already : goal.returns-then-not-is_empty-clause-already
returns-then-not-is_empty-clause-already g c =
    let gone : has_table (state g.S.Store c.args.conn.now).now.schema ≡ false = sym (ap has_table c.schema.ensures.value) ∙ sym c.has_table.ensures ∙ c.if-has_table.false in
    (λ e. cc, λ has. absurd (true≢false (sym has ∙ gone)))

pub returns-then-not-is_empty-clause-foreign : goal.returns-then-not-is_empty-clause-foreign
returns-then-not-is_empty-clause-foreign g c clean =
    let gone : has_table (state g.S.Store c.args.conn.now).now.schema ≡ false = sym (ap has_table c.schema.ensures.value) ∙ sym c.has_table.ensures ∙ c.if-has_table.false in
    (λ _. (gone, λ none. absurd (let z = rw (c.is_empty.ensures.1 (c.schema-2.ensures.value ∙ none)) at c.if-not-is_empty.true in cc)), λ _. refl)

pub returns-then-not-is_empty-clause-cause : goal.returns-then-not-is_empty-clause-cause
returns-then-not-is_empty-clause-cause g c clean =
    let gone : has_table (state g.S.Store c.args.conn.now).now.schema ≡ false = sym (ap has_table c.schema.ensures.value) ∙ sym c.has_table.ensures ∙ c.if-has_table.false in
    inl ((gone, λ none. absurd (let z = rw (c.is_empty.ensures.1 (c.schema-2.ensures.value ∙ none)) at c.if-not-is_empty.true in cc)), refl)

pub returns-then-not-is_empty-clause-crash : goal.returns-then-not-is_empty-clause-crash
returns-then-not-is_empty-clause-crash g c = survives_same (state g.S.Store c.args.conn.now) _

pub returns-in-Ok-clause-already : goal.returns-in-Ok-clause-already
returns-in-Ok-clause-already g c =
    let gone : has_table (state g.S.Store c.args.conn.now).now.schema ≡ false = sym (ap has_table c.schema.ensures.value) ∙ sym c.has_table.ensures ∙ c.if-has_table.false in
    (λ e. cc, λ has. absurd (true≢false (sym has ∙ gone)))

pub returns-in-Ok-clause-foreign : goal.returns-in-Ok-clause-foreign
returns-in-Ok-clause-foreign g c clean =
    let is : c.is_empty.result ≡ true = search rules in
    let none : (state g.S.Store c.args.conn.now).now.schema ≡ no_schema = sym c.schema-2.ensures.value ∙ c.is_empty.ensures.0 is in
    (λ e. absurd cc, λ other. absurd (other.1 none))

pub returns-in-Ok-clause-empty : goal.returns-in-Ok-clause-empty
returns-in-Ok-clause-empty g c =
    let is : c.is_empty.result ≡ true = search rules in
    sym c.schema-2.ensures.value ∙ c.is_empty.ensures.0 is

pub returns-in-Err-clause-already : goal.returns-in-Err-clause-already
returns-in-Err-clause-already g c =
    let gone : has_table (state g.S.Store c.args.conn.now).now.schema ≡ false = sym (ap has_table c.schema.ensures.value) ∙ sym c.has_table.ensures ∙ c.if-has_table.false in
    (λ e. cc, λ has. absurd (true≢false (sym has ∙ gone)))

pub returns-in-Err-clause-foreign : goal.returns-in-Err-clause-foreign
returns-in-Err-clause-foreign g c clean =
    let is : c.is_empty.result ≡ true = search rules in
    let none : (state g.S.Store c.args.conn.now).now.schema ≡ no_schema = sym c.schema-2.ensures.value ∙ c.is_empty.ensures.0 is in
    (λ e. absurd (let k : c.in-Err.fault ≡ NotAnOffice = cc in c.make_office.ensures.formed clean (c.in-Err.is ∙ ap Err k)), λ other. absurd (other.1 none))

pub returns-in-Err-clause-cause : goal.returns-in-Err-clause-cause
returns-in-Err-clause-cause g c clean =
    let is : c.is_empty.result ≡ true = search rules in
    inr (sym c.schema-2.ensures.value ∙ c.is_empty.ensures.0 is, c.in-Err.ensures.cause clean)
