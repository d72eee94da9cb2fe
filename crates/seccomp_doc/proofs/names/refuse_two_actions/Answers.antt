use Rattle.std.proofs.Common.{[], refl, rules}
use Rattle.seccomp_doc.specs.Lawful.{HasOneAction}
use Rattle.seccomp_doc.proofs.OneAction.{all_pass}
use Rattle.seccomp_doc.proofs.names.refuse_two_actions.Goals as goal

pub returns-in-Some-clause-answers : goal.returns-in-Some-clause-answers
returns-in-Some-clause-answers c =
    let one : HasOneAction c.args.entries.now = search rules in
    (all_pass [] c.args.entries.now one, refl)
