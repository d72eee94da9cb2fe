use Rattle.std.proofs.Common.{refl}
use Rattle.serde_json.specs.Data.{string}
use Rattle.json_tree.proofs.Writing.{after_last, leaves_all, list_tokens}
use Rattle.office_words.specs.WordTables.{words_among}
use Rattle.json_requests.proofs.RoleFacts.{role_written, roles_written}
use Rattle.json_requests.proofs.roles.write_among.Goals as goal

pub loop-role-init : goal.loop-role-init
loop-role-init c = leaves_all string (words_among c.args.roles c.args.among.now) _ _ refl

pub loop-role-preserved : goal.loop-role-preserved
loop-role-preserved c = role_written c.args.roles c.args.among.now c.loop-role.role-index _ c.loop-role-test.true c.loop-role.invariant c.in_ok-write_role.ensures

pub returns : goal.returns
returns c =
    rw (list_tokens string (words_among c.args.roles c.args.among.now)) (after_last _ _ _ c.in_ok-begin_array.ensures
    (after_last _ _ _ (roles_written c.args.roles c.args.among.now c.loop-role.role-index c.loop-role-test.false c.loop-role.invariant) c.end_array.ensures))
