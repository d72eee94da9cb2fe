use Rattle.std.proofs.Common.{refl}
use Rattle.http_requests.proofs.TextFacts.{no_token}
use Rattle.http_requests.proofs.token.read_token.Goals as goal

pub returns-in-Err : goal.returns-in-Err
returns-in-Err c = rw (no_token c.args.bytes.now c.in-Err.ensures.cases.0) refl
