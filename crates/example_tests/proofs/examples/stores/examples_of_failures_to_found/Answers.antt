use Rattle.std.proofs.Common.{◌≡◌, ◌∙◌, inl, inr, ℕ, pos, [], ◌∷◌, true, false, length, refl, sym, ap, arith, lit<}
use Rattle.sqlite.specs.declared.types.Value.TheVariants.{Int}
use Rattle.sqlite.specs.Schema.{Schema}
use Rattle.sqlite_schema.specs.Names.{same_name}
use Rattle.office_words.specs.Words.{is_word}
use Rattle.office_rows.specs.Statements.{begun}
use Rattle.office_store.specs.Entries.{IsUser, user_row}
use Rattle.office_store.specs.Schema.{no_schema, office_schema}
use Rattle.office_founding.specs.Examples.{alone, notes_table}
use Rattle.office_founding.specs.Founding.{founding_office, has_table}
use Rattle.office_founding.proofs.FoundingSteps.{none_founded}
use Rattle.example_tests.specs.Examples.{first_row}
use Rattle.example_tests.proofs.Failing.{memory_lacks, over_when_failed}
use Rattle.example_tests.proofs.examples.stores.examples_of_failures_to_found.Goals as goal

office_has_table : has_table office_schema ≡ true
unfolding same_name
office_has_table = refl

notes_have_none : has_table (alone notes_table) ≡ false
unfolding same_name
notes_have_none = refl

nothing_has_none : has_table no_schema ≡ false
unfolding same_name
nothing_has_none = refl

notes_are_something : alone notes_table ≡ no_schema → ⊥
notes_are_something is = let k : ◌≡◌ {A = ℕ} 1 0 = ap (λ (s : Schema). length s.tables) is in absurd (omega (arith, k))

is_user : IsUser first_row
unfolding is_word
is_user = record { name = refl; team = refl; roles = omega arith; digest = refl }

pub returns-clause-already : goal.returns-clause-already
returns-clause-already g c = λ old new is. ap has_table is ∙ office_has_table

pub returns-clause-something_else : goal.returns-clause-something_else
returns-clause-something_else g c = λ old new is. inl ((ap has_table is ∙ notes_have_none, λ same. notes_are_something (sym is ∙ same)), refl)

pub returns-clause-memory : goal.returns-clause-memory
returns-clause-memory g c = λ old rest is. inr (is, record { cause = memory_lacks g.S.Store old rest _ _; met = inl tt })

pub returns-clause-not_already : goal.returns-clause-not_already
returns-clause-not_already g c = λ old new is already. let k : false ≡ true = sym (ap has_table is ∙ nothing_has_none) ∙ already in cc

pub returns-clause-nothing_else : goal.returns-clause-nothing_else
returns-clause-nothing_else g c = λ old new is fails. elim fails [
  | inl other ↦ other.0.1 is
  | inr it ↦ (none_founded g.S.Store first_row 5 (lit< tt) is_user old is new [] (Int (pos 5) ∷ []) (user_row first_row) it.1.cause.error it.1.cause.failed refl refl refl).0 (sym it.1.cause.fault)
]

pub returns-clause-other_fault : goal.returns-clause-other_fault
returns-clause-other_fault g c = λ old new is fails. elim fails [
  | inl other ↦ let k = other.1 in cc
  | inr it ↦ notes_are_something (sym is ∙ it.0)
]

pub returns-clause-met : goal.returns-clause-met
returns-clause-met g c = λ old new f is fails. elim fails [
  | inl other ↦ absurd (other.0.1 is)
  | inr it ↦ it.1
]

pub returns-clause-another_end : goal.returns-clause-another_end
returns-clause-another_end g c = λ old new f is inside fails. elim fails [
  | inl other ↦ other.0.1 is
  | inr it ↦ let k : true ≡ false = sym inside ∙ over_when_failed g.S.Store (founding_office first_row 5) (begun old) new it.1.cause.error it.1.cause.failed in cc
]
