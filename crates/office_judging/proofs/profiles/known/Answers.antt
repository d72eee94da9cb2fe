use Rattle.std.proofs.Common.{rules, ◌≡◌, ◌∙◌, sym}
use Rattle.office_judging.proofs.Standing.{known_issued, known_only}
use Rattle.office_judging.proofs.profiles.known.Goals as goal

pub returns-then-last-eq1 : goal.returns-then-last-eq1
returns-then-last-eq1 c h p it =
    let only : c.args.last ≡ 1 = search rules in
    let issued = c.issued_if-issued.ensures in
    (λ i. record { last = c.args.last; issued = issued i; state = c.args.in_state }) ∙ known_only h p c.args.last c.args.in_state it only

pub returns-then-issued-last : goal.returns-then-issued-last
returns-then-issued-last c h p it =
    let is : c.issued_if-issued.result ≡ c.args.last = search rules in
    let issued = c.issued_if-issued.ensures in
    (λ i. record { last = c.args.last; issued = issued i; state = c.args.in_state }) ∙ known_issued h p c.args.last c.args.in_state it (sym issued ∙ is)
