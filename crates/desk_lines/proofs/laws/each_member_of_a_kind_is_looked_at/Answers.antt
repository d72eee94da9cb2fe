use Rattle.desk_lines.proofs.FlawFacts.{parts_are}
use Rattle.desk_lines.proofs.laws.each_member_of_a_kind_is_looked_at.Goals as goal

pub returns : goal.returns
returns c = parts_are
