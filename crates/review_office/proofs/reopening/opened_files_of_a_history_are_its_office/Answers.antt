use Rattle.office_policy.specs.TablesOf.{tables_of}
use Rattle.office_founding.proofs.Reopened.{found_shows}
use Rattle.review_office.proofs.reopening.opened_files_of_a_history_are_its_office.Goals as goal

pub returns : goal.returns
returns g c = λ h image lawful holds found opens idle.
    record { idle = idle; lawful = lawful; tables = λ clean is_open. found_shows c.args.opened.now image (tables_of h) holds found opens }
