use Rattle.std.proofs.Common.{map}
use Rattle.std.specs.Prelude.{codes}
use Rattle.serde_json.specs.Data.{string, member, no_members}
use Rattle.seccomp_doc.specs.Action.{action_word_text, errno_of, word_of}
use Rattle.profile_text.specs.Text.{entry_data, errno_data, member_if, some_list}
use Rattle.json_tree.proofs.Writing.{after_last}
use Rattle.profile_text.proofs.Writing.{member_first}
use Rattle.profile_text.proofs.PlainNames.{action_plain}
use Rattle.profile_text.proofs.filter_text.write_filter.Goals as goal

pub returns : goal.returns
returns c =
    let f = c.args.filter.now in
    let entries = member_if (codes "syscalls") (some_list (map entry_data f.entries)) no_members in
    let flags = member_if (codes "flags") (some_list (map string f.flags)) entries in
    let errno = member_if (codes "defaultErrnoRet") (errno_data (errno_of f.default)) flags in
    rw (
      member_first (codes "architectures") (some_list (map string f.architectures)) (member (codes "defaultAction") (string (action_word_text (word_of f.default))) errno),
      member_first (codes "defaultErrnoRet") (errno_data (errno_of f.default)) flags,
      member_first (codes "flags") (some_list (map string f.flags)) entries,
      member_first (codes "syscalls") (some_list (map entry_data f.entries)) no_members,
    )
    (after_last _ _ _ c.in_ok-begin_object.ensures (after_last _ _ _ (rw c.architectures.ensures at c.in_ok-write_architectures.ensures) (after_last _ _ _ (rw (c.word.ensures, c.default_action-default.ensures) at c.in_ok-write_text.ensures)
    (after_last _ _ _ (rw c.default_action-default.ensures at c.in_ok-write_errno.ensures) (after_last _ _ _ (rw c.flags.ensures at c.in_ok-write_flags.ensures)
    (after_last _ _ _ (rw c.entries.ensures.entries at c.in_ok-write_entries.ensures) c.end_object.ensures))))))

pub write_text-requires-clause-text : goal.write_text-requires-clause-text
write_text-requires-clause-text c = rw c.word.ensures (action_plain _)
