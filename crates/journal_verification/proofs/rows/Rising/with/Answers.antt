use Rattle.std.proofs.Common.{rules, ◌≡◌, ◌∷◌, ◌++◌, [], IsTrue, Less, subst, sym}
use Rattle.std.proofs.lemmas.Int.{to_z-of_z}
use mir.Syntax.{w64}
use mir.Val.{SFits}
use Rattle.sqlite.specs.declared.types.Value.TheVariants.{Int}
use Rattle.sqlite_value.specs.Order.{value_cmp}
use Rattle.sqlite_trees.specs.Tree.{rowid}
use Rattle.journal_verification.specs.declared.rows.Rising.TheVariants as rising
use Rattle.journal_verification.specs.Rising.{IsTold}
use Rattle.journal_verification.proofs.Rising.{first_rowid, next_rowid, no_rowid, not_above, still_fallen}
use Rattle.journal_verification.proofs.rows.Rising.with.Goals as goal

pub returns-in_default : goal.returns-in_default
returns-in_default c rows told = no_rowid rows c.args.row.now c.in_default.ensures

pub returns-in-Empty : goal.returns-in-Empty
returns-in-Empty c rows told =
    let none = rw c.in-Empty.is at told in
    let fits : SFits w64 c.in-Some.id = search rules in
    subst (λ z. IsTold (rows ++ c.args.row.now ∷ []) (rising.UpTo z)) (sym (to_z-of_z w64 c.in-Some.id fits)) (first_rowid rows c.args.row.now c.in-Some.id none c.in-Some.ensures)

pub returns-then-is_above : goal.returns-then-is_above
returns-then-is_above c rows told =
    let before = rw c.in-UpTo.is at told in
    let yes : IsTrue c.is_above.result = search rules in
    let fits : SFits w64 c.in-Some.id = search rules in
    let fitted : SFits w64 c.in-UpTo.before = search rules in
    let above = subst (λ z. value_cmp (Int z) (rowid c.args.row.now) ≡ Less) (to_z-of_z w64 c.in-UpTo.before fitted) (c.is_above.ensures.0 yes) in
    subst (λ z. IsTold (rows ++ c.args.row.now ∷ []) (rising.UpTo z)) (sym (to_z-of_z w64 c.in-Some.id fits)) (next_rowid rows c.in-UpTo.before c.in-Some.id c.args.row.now before.0 before.1 above c.in-Some.ensures)

pub returns-else-is_above : goal.returns-else-is_above
returns-else-is_above c rows told =
    let before = rw c.in-UpTo.is at told in
    let fitted : SFits w64 c.in-UpTo.before = search rules in
    not_above rows c.in-UpTo.before c.args.row.now before.1
    (λ above.
    let yes : IsTrue c.is_above.result = c.is_above.ensures.1 (subst (λ z. value_cmp (Int z) (rowid c.args.row.now) ≡ Less) (sym (to_z-of_z w64 c.in-UpTo.before fitted)) above) in
    absurd (let no = rw c.if-is_above.false at yes in cc))

pub returns-in-Fallen : goal.returns-in-Fallen
returns-in-Fallen c rows told = let fall = rw c.in-Fallen.is at told in still_fallen rows c.args.row.now fall
