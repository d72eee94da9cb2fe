use Rattle.profile_text.proofs.ToldFaults.{never_memory, never_memory_of_a_filter}
use Rattle.profile_text.proofs.law.want_of_memory_is_no_reading.Goals as goal

pub returns-clause-alone : goal.returns-clause-alone
returns-clause-alone c = never_memory

pub returns-clause-of_a_filter : goal.returns-clause-of_a_filter
returns-clause-of_a_filter c = never_memory_of_a_filter
