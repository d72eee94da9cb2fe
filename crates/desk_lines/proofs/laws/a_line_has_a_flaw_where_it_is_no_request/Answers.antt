use Rattle.desk_lines.proofs.FlawFacts.{flawed_line}
use Rattle.desk_lines.proofs.laws.a_line_has_a_flaw_where_it_is_no_request.Goals as goal

pub returns : goal.returns
returns c = flawed_line
