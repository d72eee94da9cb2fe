use Rattle.std.proofs.Common.{◌∙◌, subst, sym}
use Rattle.review_office.specs.Meant.{meaning_over}
use Rattle.journal.specs.Told.{place, placed_meant}
use Rattle.journal_office.specs.Rebuilding.{IsHalted}
use Rattle.journal_office.specs.Steps.{Stops}
use Rattle.journal_office.proofs.Building.{built_behind, built_off, built_out, outside}
use Rattle.journal_office.proofs.rebuilding.replay_last.Goals as goal

pub returns-then-not-ends_there-clause-halted : goal.returns-then-not-ends_there-clause-halted
returns-then-not-ends_there-clause-halted g c = λ bytes stops.
    outside (meaning_over g.S.Store) bytes (place g.R.Read.remaining c.args.replay.now.events) c.args.replay.now.office c.args.refused
    (sym c.ends_there.ensures ∙ c.if-not-ends_there.true) stops

pub returns-in-Ok-clause-halted : goal.returns-in-Ok-clause-halted
returns-in-Ok-clause-halted g c = λ bytes stops.
    let m = meaning_over g.S.Store in
    let here = place g.R.Read.remaining c.args.replay.now.events in
    built_behind m bytes here (placed_meant c.in-Some.placed) c.held_back.new.self.office c.happen.new.self.office c.args.refused
    (sym c.ends_there.ensures ∙ c.if-not-ends_there.false) (subst (λ office. Stops m bytes office here c.args.refused) (sym c.in-Some.ensures.office) stops)
    c.in-Some.ensures.held c.in-Ok.ensures.happened

pub returns-in-Err-clause-halted : goal.returns-in-Err-clause-halted
returns-in-Err-clause-halted g c = λ bytes stops.
    let m = meaning_over g.S.Store in
    let here = place g.R.Read.remaining c.args.replay.now.events in
    built_out m bytes here (placed_meant c.in-Some.placed) c.held_back.new.self.office c.happen.new.self.office c.args.refused c.in-Err.kept_out
    (sym c.ends_there.ensures ∙ c.if-not-ends_there.false) (subst (λ office. Stops m bytes office here c.args.refused) (sym c.in-Some.ensures.office) stops)
    c.in-Some.ensures.held c.in-Err.ensures.happened

pub returns-in-None-clause-halted : goal.returns-in-None-clause-halted
returns-in-None-clause-halted g c = λ bytes stops.
    let m = meaning_over g.S.Store in
    subst (λ office. IsHalted bytes m office c.args.refused.line c.args.refused.why) (sym c.in-None.ensures.office)
    (built_off m bytes (place g.R.Read.remaining c.args.replay.now.events) c.args.replay.now.office c.args.refused
    (sym c.ends_there.ensures ∙ c.if-not-ends_there.false) stops c.in-None.ensures.held)
