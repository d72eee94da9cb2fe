use Rattle.review_office.specs.Meant.{meaning_over}
use Rattle.journal.specs.Told.{place, placed_meant}
use Rattle.journal_reports.proofs.Searching.{given, kept, not_given, unseen}
use Rattle.journal_reports.proofs.sheet_before.give.Goals as goal

pub returns-in-Some : goal.returns-in-Some
returns-in-Some g c = λ bytes here es before told wanted.
    given (meaning_over g.S.Store) bytes c.args.name.now c.args.number c.args.line here (place g.R.Read.remaining c.args.replay.now.events) es c.args.replay.now.office c.look-looked.new.office
    c.happen.new.self.office (placed_meant c.args.placed) told wanted c.in-Ok-happen.ensures.happened c.in-Some.text (rw c.in-Some.is at (c.in-Ok.ensures bytes here es before))

pub returns-in-None : goal.returns-in-None
returns-in-None g c = λ bytes here es before told wanted.
    not_given (meaning_over g.S.Store) bytes c.args.name.now c.args.number c.args.line here (place g.R.Read.remaining c.args.replay.now.events) es c.args.replay.now.office c.look-looked.new.office
    c.happen.new.self.office (placed_meant c.args.placed) told wanted c.in-Ok-happen.ensures.happened (rw c.in-None.is at (c.in-Ok.ensures bytes here es before))

pub returns-in-Err-happen : goal.returns-in-Err-happen
returns-in-Err-happen g c = λ bytes here es before told wanted.
    kept (meaning_over g.S.Store) bytes c.args.name.now c.args.number c.args.line here (place g.R.Read.remaining c.args.replay.now.events) es c.args.replay.now.office c.look-looked.new.office
    c.happen.new.self.office (placed_meant c.args.placed) told wanted c.in-Ok.found c.in-Err-happen.refused (c.in-Ok.ensures bytes here es before) c.in-Err-happen.ensures.happened

pub returns-in-Err : goal.returns-in-Err
returns-in-Err g c = λ bytes here es before told wanted.
    unseen (meaning_over g.S.Store) bytes c.args.name.now c.args.number c.args.line here (place g.R.Read.remaining c.args.replay.now.events) es c.args.replay.now.office c.args.replay.now.office
    c.look-looked.new.office (placed_meant c.args.placed) told wanted c.in-Err.why (c.in-Err.ensures bytes here es before)
