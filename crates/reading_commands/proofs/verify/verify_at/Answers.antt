use Rattle.std.proofs.Common.{inr}
use Rattle.reading_commands.proofs.ResultFacts.{err_as, ok_anyway, ok_as}
use Rattle.reading_commands.proofs.verify.verify_at.Goals as goal

pub returns-clause-verified : goal.returns-clause-verified
returns-clause-verified g c =
    ok_as _ _ c.verify_in-verified.result
    (λ found it. record { text = _; from_journal = c.in_ok-text.ensures.text; place = c.in_ok-place.place; placed = c.in_ok-place.ensures.place; verified = it })
    c.verify_in-verified.ensures.verified

pub returns-clause-failed : goal.returns-clause-failed
returns-clause-failed g c =
    err_as _ _ c.verify_in-verified.result
    (λ why it. inr (inr (record { text = _; from_journal = c.in_ok-text.ensures.text; place = c.in_ok-place.place; placed = c.in_ok-place.ensures.place; unverified = it })))
    c.verify_in-verified.ensures.failed

pub returns-clause-compared : goal.returns-clause-compared
returns-clause-compared g c = ok_anyway _ c.verify_in-verified.result (record {
  place = c.in_ok-place.place;
  placed = c.in_ok-place.ensures.place;
  before = c.moment_of-before.result;
  after = c.moment_of.result;
  was = c.moment_of-before.ensures;
  is = c.moment_of.ensures;
  noted = c.note_change.ensures;
})

pub returns-clause-noted : goal.returns-clause-noted
returns-clause-noted g c = inr (record {
  place = c.in_ok-place.place;
  placed = c.in_ok-place.ensures.place;
  before = c.moment_of-before.result;
  after = c.moment_of.result;
  was = c.moment_of-before.ensures;
  is = c.moment_of.ensures;
  noted = c.note_change.ensures;
})
