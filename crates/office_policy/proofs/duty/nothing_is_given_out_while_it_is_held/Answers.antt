use Rattle.office_policy.proofs.GivenOut.{issued_free, fetched_free}
use Rattle.office_policy.proofs.duty.nothing_is_given_out_while_it_is_held.Goals as goal

pub returns-clause-issued : goal.returns-clause-issued
returns-clause-issued c = issued_free

pub returns-clause-fetched : goal.returns-clause-fetched
returns-clause-fetched c = fetched_free
