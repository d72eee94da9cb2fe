use Rattle.std.specs.Prelude.{string_bytes}
use Rattle.journal_reports.proofs.Adding.{enrolment_words, three_parts}
use Rattle.journal_reports.proofs.line.push_enrolment.Goals as goal

pub returns : goal.returns
returns c =
    let start = string_bytes c.args.text.now in
    three_parts start (string_bytes c.write.new.self) (string_bytes c.push_roles.new.text) (string_bytes c.push_digest.new.text) _ _ _
    (enrolment_words start _ _ _ _ _ _ _ c.in_ok-write.ensures.bytes c.as_str-caller.ensures.text c.as_str-user.ensures.text c.as_str-team.ensures.text)
    c.in_ok-push_roles.ensures c.in_ok-push_digest.ensures
