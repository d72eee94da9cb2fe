use Rattle.std.proofs.Common.{◌+◌, Some, None, get_or, subst}
use Rattle.std.specs.List.{AllByRecursion}
use Rattle.std.proofs.lemmas.List.{take_all}
use Rattle.sqlite.specs.Held.{state}
use Rattle.journal_verification.specs.Same.{HaveSame, TellsTable, TellsTables}
use Rattle.journal_faults.specs.declared.table.Table.TheVariants.{Office}
use Rattle.journal_verification.specs.declared.table.TheConstants.{FURTHER}
use Rattle.journal_verification.proofs.Looks.{all_six, first_further, first_of_all, one_more}
use Rattle.journal_verification.proofs.SideBySide.{HaveSameUpTo, compares_as, compares_on, fails, then_fails}
use Rattle.journal_verification.proofs.compare.tables_differ.Goals as goal

pub returns-in_err-row : goal.returns-in_err-row
returns-in_err-row g c = let more = c.in_err-row.ensures in fails g.S.Store g.T.Store _ _ _ _ _ c.in_err-row.field-0.0 c.from_residual.ensures.1 more.built more.office more.cause

pub returns-in-Some : goal.returns-in-Some
returns-in-Some g c =
    compares_as g.S.Store g.T.Store (TellsTable g.S.Store g.T.Store Office) (TellsTables g.S.Store g.T.Store) _ _ _ _ _ (Some c.in-Some.row) c.in_ok-row.ensures
    (λ told. first_of_all g.S.Store g.T.Store (state g.S.Store c.args.built.now).now (state g.T.Store c.args.office.now).now c.in-Some.row (rw c.in-Some.is at told))

pub loop-table-init : goal.loop-table-init
loop-table-init g c =
    compares_as g.S.Store g.T.Store (TellsTable g.S.Store g.T.Store Office) (HaveSameUpTo g.S.Store g.T.Store 0) _ _ _ _ _ tt c.in_ok-row.ensures (λ told. (rw c.in_default.is at told, tt))

pub loop-table-preserved : goal.loop-table-preserved
loop-table-preserved g c =
    let i = c.loop-table.table-index in
    let a = (state g.S.Store c.args.built.now).now in
    let b = (state g.T.Store c.args.office.now).now in
    compares_on g.S.Store g.T.Store (HaveSameUpTo g.S.Store g.T.Store i) (HaveSameUpTo g.S.Store g.T.Store (i + 1)) (TellsTable g.S.Store g.T.Store (get_or FURTHER i Office)) _ c.loop-table.built _ _ c.loop-table.office _ tt _ tt c.loop-table.invariant c.in_ok-row-2.ensures
    (λ same told. (same.0, one_more g.S.Store g.T.Store FURTHER i Office (λ t. HaveSame g.S.Store g.T.Store t a b) c.loop-table-test.true same.1 (rw c.in_default-2.is at told)))

pub returns-in_err-row-2 : goal.returns-in_err-row-2
returns-in_err-row-2 g c =
    let kept = c.loop-table.invariant in
    then_fails g.S.Store g.T.Store _ c.loop-table.built _ _ c.loop-table.office _ tt kept _ c.in_err-row-2.field-0.0 c.from_residual-in_err-row-2.ensures.1 (λ clean giving. ((kept.of_office clean).0, giving)) c.in_err-row-2.ensures

pub returns-in-Some-2 : goal.returns-in-Some-2
returns-in-Some-2 g c =
    let i = c.loop-table.table-index in
    let a = (state g.S.Store c.args.built.now).now in
    let b = (state g.T.Store c.args.office.now).now in
    compares_on g.S.Store g.T.Store (HaveSameUpTo g.S.Store g.T.Store i) (TellsTables g.S.Store g.T.Store) (TellsTable g.S.Store g.T.Store (get_or FURTHER i Office)) _ c.loop-table.built _ _ c.loop-table.office _ tt _ (Some c.in-Some-2.row) c.loop-table.invariant c.in_ok-row-2.ensures
    (λ same told. first_further g.S.Store g.T.Store a b i Office c.in-Some-2.row c.loop-table-test.true same.0 same.1 (rw c.in-Some-2.is at told))

pub returns : goal.returns
returns g c =
    let i = c.loop-table.table-index in
    let a = (state g.S.Store c.args.built.now).now in
    let b = (state g.T.Store c.args.office.now).now in
    compares_as g.S.Store g.T.Store (HaveSameUpTo g.S.Store g.T.Store i) (TellsTables g.S.Store g.T.Store) _ _ _ _ tt None c.loop-table.invariant
    (λ same. all_six g.S.Store g.T.Store a b same.0 (subst (AllByRecursion (λ t. HaveSame g.S.Store g.T.Store t a b)) (take_all i FURTHER c.loop-table-test.false) same.1))
