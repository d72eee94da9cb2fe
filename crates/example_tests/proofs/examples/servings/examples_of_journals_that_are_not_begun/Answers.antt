use Rattle.std.proofs.Common.{◌≡◌, inl, inr, refl, sym, subst}
use Rattle.std.specs.Prelude.{Ok}
use Rattle.command_host.specs.NoFiles.{file_fault}
use Rattle.command_host.specs.declared.fault.CommandFault.{CommandFault}
use Rattle.command_host.specs.declared.fault.CommandFault.TheVariants as fault
use Rattle.command_host.specs.declared.no_file.NoFile.{NoFile}
use Rattle.command_host.specs.declared.no_file.NoFile.TheVariants as files
use Rattle.example_tests.proofs.Servings.{never_later}
use Rattle.example_tests.proofs.examples.servings.examples_of_journals_that_are_not_begun.Goals as goal

pub returns-clause-not_made : goal.returns-clause-not_made
returns-clause-not_made g c = λ e. inl (e, refl, refl)

pub returns-clause-removed : goal.returns-clause-removed
returns-clause-removed g c = λ made left later. inr (refl, (made, left, refl, later, (Ok tt, refl)))

pub returns-clause-not_told : goal.returns-clause-not_told
returns-clause-not_told g c = λ is. elim is [
  | inl none ↦
      let k = none.1 in
      let busy : files.Busy ≡ none.0 = cc in
      let told : fault.Journal ≡ file_fault files.Busy = subst (λ (e : NoFile). fault.Journal ≡ file_fault e) (sym busy) none.2 in
      cc
  | inr removed ↦ let k = removed.1.2 in cc
]

pub returns-clause-made : goal.returns-clause-made
returns-clause-made g c = λ made is. elim is [
  | inl none ↦ let k = none.1 in cc
  | inr removed ↦ let k = removed.0 in cc
]

pub returns-clause-not_removed : goal.returns-clause-not_removed
returns-clause-not_removed g c = λ made is. elim is [
  | inl none ↦ let k = none.1 in cc
  | inr removed ↦ removed.1.4.1
]

pub returns-clause-other_file : goal.returns-clause-other_file
returns-clause-other_file g c = λ made other never is. elim is [
  | inl none ↦ let k = none.1 in cc
  | inr removed ↦ never_later g.L.Disk made other never removed.1.0 removed.1.1 (let k = removed.1.2 in cc) removed.1.4.1 removed.1.3
]
