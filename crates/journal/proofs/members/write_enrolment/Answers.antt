use Rattle.std.specs.Prelude.{Some, codes}
use Rattle.serde_json.specs.Data.{member, no_members}
use Rattle.json_tree.proofs.Writing.{after_last}
use Rattle.json_requests.specs.Answers.{roles_data}
use Rattle.journal.specs.Lines.{user_members}
use Rattle.journal.proofs.TextFacts.{deed_first, roles_alone}
use Rattle.journal.proofs.members.write_enrolment.Goals as goal

pub returns : goal.returns
returns c =
    rw (deed_first c.args.caller.now (Some c.args.digest.now) (codes "enrol") c.args.line (member (codes "roles") (roles_data c.args.roles) (user_members c.args.user.now c.args.team.now no_members)))
    (after_last _ _ _ c.in_ok-begin_object.ensures (after_last _ _ _ c.in_ok-write_deed.ensures (after_last _ _ _ (roles_alone c.args.roles c.in_ok-write_roles.ensures)
    (after_last _ _ _ c.in_ok-write_user.ensures c.end_object.ensures))))
