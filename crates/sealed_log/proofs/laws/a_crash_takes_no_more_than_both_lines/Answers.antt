use Rattle.sealed_log.proofs.ToldFacts.{told_after_both}
use Rattle.sealed_log.proofs.laws.a_crash_takes_no_more_than_both_lines.Goals as goal

pub returns : goal.returns
returns c = told_after_both
