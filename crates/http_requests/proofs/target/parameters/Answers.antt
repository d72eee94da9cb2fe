use Rattle.std.proofs.Common.{◌∙◌}
use Rattle.http_requests.proofs.target.parameters.Goals as goal

pub returns-clause-team : goal.returns-clause-team
returns-clause-team c = c.split_part.ensures.rest 1 ∙ (c.split_part-2.ensures.rest 0 ∙ c.split_part-3.ensures.first)

pub returns-clause-profile : goal.returns-clause-profile
returns-clause-profile c =
    c.split_part.ensures.rest 2 ∙ (c.split_part-2.ensures.rest 1 ∙ (c.split_part-3.ensures.rest 0 ∙ c.split_part-4.ensures.first))

pub returns-clause-number : goal.returns-clause-number
returns-clause-number c =
    c.split_part.ensures.rest 3 ∙ (c.split_part-2.ensures.rest 2
    ∙ (c.split_part-3.ensures.rest 1 ∙ (c.split_part-4.ensures.rest 0 ∙ c.split_part-5.ensures.first)))
