use Rattle.std.proofs.Common.{rules, ◌≡◌}
use Rattle.office_words.specs.declared.revision.State.TheVariants.{Open}
use Rattle.office_judging.proofs.Standing.{only_open}
use Rattle.office_judging.proofs.profiles.known_at_once.Goals as goal

pub returns-then-in_state-eq0 : goal.returns-then-in_state-eq0
returns-then-in_state-eq0 c h p one =
    let first : c.args.number ≡ 1 = search rules in
    let is_open : c.args.in_state ≡ Open = search rules in
    only_open h p c.args.number c.args.in_state one first is_open
