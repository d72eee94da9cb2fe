use Rattle.std.proofs.Common.{refl}
use Rattle.http_requests.proofs.TextFacts.{no_word}
use Rattle.http_requests.proofs.parameter.word.Goals as goal

pub returns-in-Err : goal.returns-in-Err
returns-in-Err c = rw (no_word c.args.part.now c.in-Err.ensures.cases.0) refl
