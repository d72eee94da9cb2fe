use Rattle.std.proofs.Common.{rules, Some, None, subst, sym, ◌∙◌}
use Rattle.sqlite.specs.Held.{state}
use Rattle.sqlite.proofs.Callers.{unchanged_then}
use Rattle.journal_verification.specs.Reading.{HasNext}
use Rattle.journal_verification.specs.Texts.{rows_text}
use Rattle.journal_verification.proofs.Firsts.{tells_other}
use Rattle.journal_verification.proofs.Readings.{still_giving}
use Rattle.journal_verification.proofs.SideBySide.{fails, finds, then_fails, then_finds, wants_memory}
use Rattle.journal_verification.proofs.side_by_side.next_differs.Goals as goal

pub returns-in_err-read_both : goal.returns-in_err-read_both
returns-in_err-read_both g c =
    let looks = c.in_err-read_both.ensures.looks in
    record { built_reference = search rules; office_reference = search rules; looks = fails g.S.Store g.T.Store _ _ _ _ _ c.in_err-read_both.field-0.0 c.from_residual.ensures.1 looks.built looks.office looks.cause }

pub returns-in_err-difference : goal.returns-in_err-difference
returns-in_err-difference g c =
    let looks = c.in_ok-read_both.ensures.looks in
    record {
      built_reference = search rules;
      office_reference = search rules;
      looks = fails g.S.Store g.T.Store _ _ _ _ _ c.in_err-difference.field-0.0 c.from_residual-in_err-difference.ensures.1 looks.built looks.office
          (λ clean has giving. wants_memory (state g.T.Store c.args.office.now.conn.now) (state g.T.Store c.read_both.new.office.conn.now) c.in_err-difference.field-0.0 c.in_err-difference.ensures.cause);
    }

pub returns-in_err-read_rests-in-Some : goal.returns-in_err-read_rests-in-Some
returns-in_err-read_rests-in-Some g c =
    let first = c.args.office.now.conn.now in
    let next = c.read_both.new.office in
    let nexts = c.in_ok-read_both.ensures.looks in
    record {
      built_reference = search rules;
      office_reference = search rules;
      looks = then_fails g.S.Store g.T.Store _ c.read_both.new.built.conn.now _ first next.conn.now _ _ nexts _ c.in_err-read_rests-in-Some.field-0.0 c.from_residual-in_err-read_rests-in-Some.ensures.1
          (λ clean giving. ((nexts.of_office clean).0, λ found. still_giving g.T.Store first next.conn.now next.has_row found (nexts.of_office clean).1 giving)) c.in_err-read_rests-in-Some.ensures.looks;
    }

pub returns-in_ok-read_rests-in-Some : goal.returns-in_ok-read_rests-in-Some
returns-in_ok-read_rests-in-Some g c =
    let sql = rows_text c.args.table in
    let nexts = c.in_ok-read_both.ensures.looks in
    let rests = c.in_ok-read_rests-in-Some.ensures.looks in
    let mid = c.read_both.new.built.conn.now in
    let middle = c.read_both.new.office.conn.now in
    let built = state g.S.Store c.read_rests.new.built.conn.now in
    let office = state g.T.Store c.read_rests.new.office.conn.now in
    record {
      built_reference = search rules;
      office_reference = search rules;
      looks = then_finds g.S.Store g.T.Store _ mid _ _ middle _ _ nexts _ (Some c.in-Some.difference) rests
          (λ first.
          let was = (nexts.of_built (rests.built.clean first)).0 in
          unchanged_then _ (state g.S.Store mid) _ was ((rests.of_built first).0 was.0.is_open))
          (λ second.
          let was = (nexts.of_office (rests.office.clean second)).0 in (
            unchanged_then _ (state g.T.Store middle) _ was ((rests.of_office second).0 was.0.is_open),
            λ giving. tt,
            λ first before at_built at_office.
                tells_other g.S.Store g.T.Store c.args.table built.now office.now before _ _ _ _ c.get.ensures c.get-2.ensures
                ((rests.of_built first).1 sql before ((nexts.of_built (rests.built.clean first)).1 sql before at_built))
                ((rests.of_office second).1 sql before ((nexts.of_office (rests.office.clean second)).1 sql before at_office))
                c.in-Some.difference (rw c.in-Some.is at c.in_ok-difference.ensures.differs),
          ));
    }

pub returns-in-None : goal.returns-in-None
returns-in-None g c =
    let sql = rows_text c.args.table in
    let first = c.args.office.now.conn.now in
    let next = c.read_both.new.office in
    let nexts = c.in_ok-read_both.ensures.looks in
    let alike = sym c.get.ensures ∙ (rw c.in-None.is at c.in_ok-difference.ensures.differs) ∙ c.get-2.ensures in
    record {
      built_reference = search rules;
      office_reference = search rules;
      looks = finds g.S.Store g.T.Store _ _ _ _ None nexts.built nexts.office (λ clean. (nexts.of_built clean).0)
          (λ second. (
            (nexts.of_office second).0,
            λ giving found. still_giving g.T.Store first next.conn.now next.has_row found (nexts.of_office second).1 giving,
            λ clean before at_built at_office. (
              subst (HasNext g.S.Store sql c.read_both.new.built.conn.now before) alike ((nexts.of_built clean).1 sql before at_built),
              (nexts.of_office second).1 sql before at_office,
            ),
          ));
    }
