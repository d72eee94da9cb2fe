use Rattle.std.proofs.Common.{◌≡◌, ◌∙◌, true, false, refl, sym, ap, arith}
use Rattle.sqlite_schema.specs.Names.{same_name}
use Rattle.office_founding.specs.Form.{has_tables, has_indexes}
use Rattle.office_store.specs.Schema.{old_schema, tables_schema}
use Rattle.office_store.specs.Shown.{office_row}
use Rattle.office_founding.proofs.examples.examples_of_forms.Goals as goal

pub returns-clause-row : goal.returns-clause-row
returns-clause-row g c = record { row = office_row 5; there = (0, omega arith, refl); key = refl; schema = refl; listed_are = refl }

pub returns-clause-none_listed : goal.returns-clause-none_listed
returns-clause-none_listed g c = record { row = office_row 0; there = (0, omega arith, refl); key = refl; schema = refl; listed_are = refl }

old_lacks : has_tables old_schema ≡ false
unfolding same_name
old_lacks = refl

tables_lack : has_indexes tables_schema ≡ false
unfolding same_name
tables_lack = refl

pub returns-clause-less_a_table : goal.returns-clause-less_a_table
returns-clause-less_a_table g c = λ old new listed rows has form. absurd (let e : true ≡ false = sym form.tables ∙ ap has_tables has.schema_is ∙ old_lacks in cc)

pub returns-clause-less_an_index : goal.returns-clause-less_an_index
returns-clause-less_an_index g c = λ old new listed rows has form. absurd (let e : true ≡ false = sym form.indexes ∙ ap has_indexes has.schema_is ∙ tables_lack in cc)
