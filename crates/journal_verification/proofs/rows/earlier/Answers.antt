use Rattle.std.proofs.Common.{rules, ◌≡◌, IsTrue, Less, sym, ◌∙◌}
use Rattle.journal_verification.proofs.Firsts.{second_earlier}
use Rattle.journal_verification.proofs.rows.earlier.Goals as goal

pub returns-then-eq : goal.returns-then-eq
returns-then-eq c =
    let less : c.compare_columns.result ≡ Less = search rules in
    rw (c.in-Some-Some.is-0, c.in-Some-Some.is-1)
    (second_earlier c.args.width c.in-Some-Some.first.now c.in-Some-Some.second.now
    (λ same. let yes : IsTrue c.is_same_row.result = c.is_same_row.ensures.1 same in absurd (let no = rw c.if-is_same_row.false at yes in cc)) (sym c.compare_columns.ensures ∙ less))
