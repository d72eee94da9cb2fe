use Rattle.std.proofs.Common.{refl}
use Rattle.desk_http.proofs.OutcomeFacts.{refused_come}
use Rattle.desk_http.proofs.outcome.ExchangeOutcome.of_stream.Goals as goal

pub returns-in-Err-Refused-clause-outcome : goal.returns-in-Err-Refused-clause-outcome
returns-in-Err-Refused-clause-outcome g c =
    let heard = c.in-Err-Refused.ensures.heard in
    (refused_come _ _ _ _ _ c.in-Err-Refused.field-0-is c.in-Err-Refused.refusal-is heard, refl)
