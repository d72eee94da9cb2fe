use Rattle.std.proofs.Common.{[], ◌∷◌, true, refl}
use Rattle.office_policy.specs.Examples.{sue, web, text, open_row, approves, one_submitted}
use Rattle.office_policy.proofs.ShownFacts.{none_over, same_votes}
use Rattle.office_policy.proofs.law_examples.examples_of_shown_events.Goals as goal

pub returns-clause-submission : goal.returns-clause-submission
returns-clause-submission c = record {
  row = open_row 1 text;
  last = (refl, λ n above. none_over one_submitted web n above);
  still_open = refl;
  author = refl;
  text = refl;
}

pub returns-clause-vote_again : goal.returns-clause-vote_again
returns-clause-vote_again c = same_votes (approves sue 1 ∷ one_submitted) sue web 1 (9 ∷ []) true refl
