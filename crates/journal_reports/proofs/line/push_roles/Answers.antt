use Rattle.std.proofs.Common.{arith}
use Rattle.std.specs.Prelude.{string_bytes}
use Rattle.office_words.specs.WordTables.{role_words}
use Rattle.journal_reports.proofs.Adding.{or_none}
use Rattle.journal_reports.proofs.line.push_roles.Goals as goal

pub returns : goal.returns
returns c =
    or_none (string_bytes c.args.text.now) (string_bytes c.push_each_role.new.text) (string_bytes c.push_none_at.new.text) c.len-before.result (role_words c.args.roles)
    (omega (arith, c.len-before.ensures, c.args.text.now.bytes.ok.0)) c.in_ok-push_each_role.ensures c.in_ok-push_none_at.ensures
