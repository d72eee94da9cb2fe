use Rattle.std.proofs.Common.{◌≡◌, ◌∙◌, ◌<◌, ℕ, List, [], ◌∷◌, true, false, codes, refl, sym, ap, arith}
use Rattle.std.specs.List.{list_any}
use Rattle.std.specs.Prelude.{bytes_eq}
use Rattle.review_policy.specs.declared.answer.ListedProfile.{ListedProfile}
use Rattle.office_policy.specs.Examples.{blue, one_submitted, web}
use Rattle.office_policy.specs.Laws.{listed_names}
use Rattle.office_policy.specs.Revisions.{revision_count}
use Rattle.office_policy.proofs.ListingFacts.{all_listed}
use Rattle.example_tests.proofs.Duties.{false_is_true}
use Rattle.example_tests.proofs.examples.laws.examples_of_lists_of_all.Goals as goal

pub returns-clause-all : goal.returns-clause-all
returns-clause-all c = all_listed one_submitted blue

pub returns-clause-left_out : goal.returns-clause-left_out
returns-clause-left_out c = λ h all some none.
    false_is_true (ap (λ (l : List ListedProfile). list_any (bytes_eq (codes "web")) (listed_names l)) (sym none) ∙ (all (codes "web")).1 some)

pub returns-clause-without_revision : goal.returns-clause-without_revision
returns-clause-without_revision c = λ h all none listed.
    let some : 0 < revision_count h web = (all (codes "web")).0 (ap (λ (l : List (List ℕ)). list_any (bytes_eq (codes "web")) l) listed) in
    omega (arith, some, none)
