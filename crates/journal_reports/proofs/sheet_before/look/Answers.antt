use Rattle.std.proofs.Common.{rules, ◌≡◌, Err, Some}
use Rattle.review_office.specs.Meant.{meaning_over}
use Rattle.journal.specs.Told.{placed_meant}
use Rattle.journal_reports.proofs.Looks.{looked_on}
use Rattle.journal_reports.proofs.Searching.{ending_unseen, no_memory, none_seen, sheet_seen, sheet_unseen}
use Rattle.journal_reports.proofs.sheet_before.look.Goals as goal

pub returns-in_ok-joined-in-Ok-Some : goal.returns-in_ok-joined-in-Ok-Some
returns-in_ok-joined-in-Ok-Some g c = λ bytes here es before.
    let m = meaning_over g.S.Store in
    let looked = rw c.in-Ok-Some.field-0-is at c.in-Ok-Some.ensures in
    sheet_seen m bytes c.args.name.now c.args.number c.args.line here es c.args.office.now (placed_meant c.args.placed.now) before
    c.sheet.new.self c.ending.new.office c.in-Ok-Some.sheet c.in_ok-ending-in-Ok-Some.ending c.in_ok-joined-in-Ok-Some.field-0 looked
    (c.in_ok-ending-in-Ok-Some.ensures bytes here es (looked_on m bytes here es c.args.office.now c.sheet.new.self _ (Some c.in-Ok-Some.sheet) before looked)) c.in_ok-joined-in-Ok-Some.ensures.text

pub returns-in_err-joined-in-Ok-Some : goal.returns-in_err-joined-in-Ok-Some
returns-in_err-joined-in-Ok-Some g c =
    let told : c.from_residual-in_err-joined-in-Ok-Some.result ≡ Err c.in_err-joined-in-Ok-Some.field-0.0 = search rules in
    rw told (λ bytes here es before.
    no_memory (meaning_over g.S.Store) bytes here es c.args.office.now c.ending.new.office c.args.placed.now.line c.in_err-joined-in-Ok-Some.field-0.0 c.in_err-joined-in-Ok-Some.ensures.none)

pub returns-in_err-ending-in-Ok-Some : goal.returns-in_err-ending-in-Ok-Some
returns-in_err-ending-in-Ok-Some g c =
    let told : c.from_residual.result ≡ Err c.in_err-ending-in-Ok-Some.field-0.0 = search rules in
    rw told (λ bytes here es before.
    let m = meaning_over g.S.Store in
    let looked = rw c.in-Ok-Some.field-0-is at c.in-Ok-Some.ensures in
    ending_unseen m bytes c.args.name.now c.args.number c.args.line here es c.args.office.now (placed_meant c.args.placed.now) before
    c.sheet.new.self c.ending.new.office c.args.placed.now.line c.in_err-ending-in-Ok-Some.field-0.0
    (c.in_err-ending-in-Ok-Some.ensures bytes here es (looked_on m bytes here es c.args.office.now c.sheet.new.self _ (Some c.in-Ok-Some.sheet) before looked)))

pub returns-in-Ok-None : goal.returns-in-Ok-None
returns-in-Ok-None g c = λ bytes here es before.
    none_seen (meaning_over g.S.Store) bytes c.args.name.now c.args.number c.args.line here es c.args.office.now (placed_meant c.args.placed.now) before c.sheet.new.self
    (rw c.in-Ok-None.field-0-is at c.in-Ok-None.ensures)

pub returns-in-Err : goal.returns-in-Err
returns-in-Err g c = λ bytes here es before.
    sheet_unseen (meaning_over g.S.Store) bytes c.args.name.now c.args.number c.args.line here es c.args.office.now (placed_meant c.args.placed.now) before c.sheet.new.self c.in-Err.fault c.in-Err.ensures
