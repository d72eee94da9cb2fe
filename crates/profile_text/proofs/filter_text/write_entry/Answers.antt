use Rattle.std.proofs.Common.{map}
use Rattle.std.specs.Prelude.{codes}
use Rattle.serde_json.specs.Data.{member, no_members}
use Rattle.seccomp_doc.specs.Action.{errno_of}
use Rattle.profile_text.specs.Text.{arg_data, errno_data, member_if, some_list, texts_data}
use Rattle.json_tree.proofs.Writing.{after_last}
use Rattle.profile_text.proofs.Writing.{member_first}
use Rattle.profile_text.proofs.PlainNames.{action_plain}
use Rattle.profile_text.proofs.filter_text.write_entry.Goals as goal

pub returns : goal.returns
returns c =
    let e = c.args.entry.now in
    let names = member (codes "names") (texts_data e.names) no_members in
    rw (
      member_first (codes "args") (some_list (map arg_data e.args)) (member_if (codes "errnoRet") (errno_data (errno_of e.action)) names),
      member_first (codes "errnoRet") (errno_data (errno_of e.action)) names,
    )
    (after_last _ _ _ c.in_ok-begin_object.ensures (after_last _ _ _ (rw (c.word.ensures, c.action-action.ensures) at c.in_ok-write_text.ensures) (after_last _ _ _ (rw c.args-args.ensures.args at c.in_ok-write_args.ensures)
    (after_last _ _ _ (rw c.action-action.ensures at c.in_ok-write_errno.ensures) (after_last _ _ _ (rw c.names.ensures.names at c.in_ok-write_names.ensures) c.end_object.ensures)))))

pub write_text-requires-clause-text : goal.write_text-requires-clause-text
write_text-requires-clause-text c = rw c.word.ensures (action_plain _)
