use Rattle.sealed_log.proofs.ToldFacts.{long_line, short_line}
use Rattle.sealed_log.proofs.seals.seal_in.Goals as goal

pub returns-then-line-lt-WRAPPING : goal.returns-then-line-lt-WRAPPING
returns-then-line-lt-WRAPPING c = short_line c.args.prior.now c.args.line.now c.if-line-lt-WRAPPING.true

pub returns-then-line-ge-LONGEST : goal.returns-then-line-ge-LONGEST
returns-then-line-ge-LONGEST c = long_line c.args.prior.now c.args.line.now c.if-line-ge-LONGEST.true
