use Rattle.std.proofs.Common.{◌∙◌, ◌∷◌, [], Some, subst, sym}
use Rattle.review_office.specs.Meant.{meaning_over}
use Rattle.journal.specs.Told.{place, placed_meant}
use Rattle.journal_office.specs.Steps.{HasBegun}
use Rattle.journal_office.proofs.Refusals.{begun_on, none_before}
use Rattle.journal_reports.proofs.Searching.{none_first, unfounded}
use Rattle.journal_reports.proofs.sheet_before.find.Goals as goal

pub returns-in-Some : goal.returns-in-Some
returns-in-Some g c = λ bytes begun.
    let m = meaning_over g.S.Store in
    let first = placed_meant c.args.first.now in
    let halted = subst (HasBegun m bytes c.args.replay.now.office (place g.R.Read.remaining c.args.replay.now.events) first) c.in-Some.is begun in
    none_before m bytes c.args.replay.now.office c.in-Some.refused.line c.in-Some.refused.why (Some first) halted.told.0

pub returns-then-is_wanted : goal.returns-then-is_wanted
returns-then-is_wanted g c = λ bytes begun.
    let m = meaning_over g.S.Store in
    let here = place g.R.Read.remaining c.args.replay.now.events in
    let first = placed_meant c.args.first.now in
    unfounded m bytes c.args.name.now c.args.number c.args.line here first c.args.replay.now.office
    (begun_on m bytes here first c.args.halt c.args.replay.now.office c.in_default.is begun) (sym c.is_wanted.ensures ∙ c.if-is_wanted.true)

pub returns-else-is_wanted : goal.returns-else-is_wanted
returns-else-is_wanted g c = λ bytes begun.
    let m = meaning_over g.S.Store in
    let here = place g.R.Read.remaining c.args.replay.now.events in
    let first = placed_meant c.args.first.now in
    c.search.ensures bytes (first ∷ []) (begun_on m bytes here first c.args.halt c.args.replay.now.office c.in_default.is begun)
    (none_first m bytes c.args.name.now c.args.number c.args.line first (sym c.is_wanted.ensures ∙ c.if-is_wanted.false))
