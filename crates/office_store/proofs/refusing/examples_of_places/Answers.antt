use Rattle.std.proofs.Common.{◌∙◌, Bool, inl, inr, pos, refl, false, true≢false, sym, ap, arith}
use Rattle.std.specs.Prelude.{◌||◌}
use Rattle.std.specs.Ordering.{is_eq}
use Rattle.sqlite.specs.declared.types.Value.TheVariants.{Int}
use Rattle.sqlite_value.specs.Order.{value_cmp}
use Rattle.sqlite_value.proofs.OrderLemmas.{value_cmp-Int}
use Rattle.office_rows.proofs.Rowids.{reflexive}
use Rattle.office_store.proofs.refusing.examples_of_places.Goals as goal

pub returns-clause-empty : goal.returns-clause-empty
returns-clause-empty c = λ h. elim h [ inl taken ↦ true≢false (sym taken) | inr more ↦ elim more [ inl unfit ↦ true≢false unfit | inr long ↦ true≢false long ] ]

pub returns-clause-next : goal.returns-clause-next
returns-clause-next c = λ h. elim h [
  | inl taken ↦ true≢false (sym taken ∙ ap (λ o. is_eq o || false) (value_cmp-Int (pos 7) (pos 8)))
  | inr more ↦ elim more [ inl unfit ↦ true≢false unfit | inr long ↦ true≢false long ]
]

pub returns-clause-greatest : goal.returns-clause-greatest
returns-clause-greatest c = inr (inl refl)

pub returns-clause-taken : goal.returns-clause-taken
returns-clause-taken c = inl (ap (λ (b : Bool). b || (is_eq (value_cmp (Int (pos 7)) (Int (pos 8))) || false)) (reflexive (pos 8)))

pub returns-clause-long : goal.returns-clause-long
returns-clause-long c = refl

pub returns-clause-short : goal.returns-clause-short
returns-clause-short c = λ h. true≢false h

pub returns-clause-big : goal.returns-clause-big
returns-clause-big c = λ text is. omega (arith, is)

pub returns-clause-small : goal.returns-clause-small
returns-clause-small c = λ text is big. omega (arith, is, big)
