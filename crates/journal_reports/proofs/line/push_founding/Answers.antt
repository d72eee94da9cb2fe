use Rattle.std.specs.Prelude.{string_bytes}
use Rattle.journal_reports.proofs.Adding.{founding_words, then_part}
use Rattle.journal_reports.proofs.line.push_founding.Goals as goal

pub returns : goal.returns
returns c =
    let start = string_bytes c.args.text.now in
    then_part start (string_bytes c.write.new.self) (string_bytes c.push_names.new.text) _ _
    (founding_words start _ _ _ _ _ c.in_ok-write.ensures.bytes c.as_str-user.ensures.text c.as_str-team.ensures.text) c.in_ok-push_names.ensures
