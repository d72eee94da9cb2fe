use Rattle.sealed_log.proofs.LogFacts.{all_told, told_tail_of}
use Rattle.sealed_log.proofs.laws.a_file_begins_with_what_it_tells.Goals as goal

pub returns-clause-bodies : goal.returns-clause-bodies
returns-clause-bodies c = all_told

pub returns-clause-begins : goal.returns-clause-begins
returns-clause-begins c = told_tail_of
