use Rattle.std.specs.Prelude.{codes}
use Rattle.serde_json.specs.Data.{no_members}
use Rattle.profile_text.specs.Text.{seccomp_data}
use Rattle.json_tree.proofs.Writing.{after_last}
use Rattle.profile_text.proofs.Writing.{member_first}
use Rattle.profile_text.proofs.canonical.write_profile.Goals as goal

pub returns : goal.returns
returns c =
    rw (member_first (codes "seccomp") (seccomp_data c.args.profile.now.filter) no_members)
    (after_last _ _ _ c.in_ok-begin_object.ensures (after_last _ _ _ c.in_ok-plain_key.ensures (after_last _ _ _ c.in_ok-write_caps.ensures
    (after_last _ _ _ c.in_ok-write_seccomp.ensures c.end_object.ensures))))
