use Rattle.std.proofs.Common.{◌≡◌, ◌∙◌, [], ap, arith}
use Rattle.sealed_log.specs.Told.{told}
use Rattle.changing_commands.proofs.KeptFacts.{none_sealed, only_body}
use Rattle.changing_commands.proofs.begun.put_first.Goals as goal

pub returns-clause-has : goal.returns-clause-has
returns-clause-has g c = λ clean.
    let seen = g.D.Disk.seen in
    let found = c.in_ok-found.found in
    let was_open = c.in_ok-put.ensures.clean clean in
    let through = c.in_ok-found.ensures.through (c.in_ok-open_at.ensures.clean was_open) in
    let none : told (seen c.read.new.self.disk) ≡ [] =
    ap told c.in_ok-found.ensures.seen ∙ none_sealed (seen c.args.log.now.disk) found through (omega (arith, c.if-at-gt0.false, c.at.ensures)) in
    only_body (seen c.read.new.self.disk) (seen c.open_at.new.self.disk) (seen c.put.new.self.disk) c.args.body.now
    none (c.in_ok-open_at.ensures.has was_open) (c.in_ok-put.ensures.appended.1 clean)
