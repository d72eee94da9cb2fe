use Rattle.std.proofs.Common.{rules, IsTrue}
use Rattle.sqlite.specs.Held.{state}
use Rattle.journal_verification.specs.Same.{TellsTables}
use Rattle.journal_verification.proofs.Comparing.{told}
use Rattle.journal_verification.proofs.SideBySide.{on_ok, told_then}
use Rattle.journal_verification.proofs.compare.compare.Goals as goal

pub returns-clause-told : goal.returns-clause-told
returns-clause-told g c = λ t shows first second.
    let yes : IsTrue c.has_schema.result = search rules in
    let looks = c.tables_differ.ensures.of_office second in
    told g.S.Store g.T.Store t c.args.built.now c.args.office.now c.tables_differ.new.office c.tables_differ.result shows ((c.has_schema.ensures.same shows.office.schema).0 yes) c.has_schema.ensures.sound (c.has_schema.ensures.settled yes)
    (on_ok _ _ c.tables_differ.result looks) (told_then _ (TellsTables g.S.Store g.T.Store (state g.S.Store c.args.built.now).now (state g.T.Store c.args.office.now).now) c.tables_differ.result looks first)

pub returns-clause-cause : goal.returns-clause-cause
returns-clause-cause g c = λ t shows clean.
    let yes : IsTrue c.has_schema.result = search rules in
    c.tables_differ.ensures.cause clean ((c.has_schema.ensures.same shows.office.schema).0 yes) tt
