use Rattle.std.proofs.Common.{rules, ◌≡◌, [], None, Some, refl, subst, sym, ◌∙◌}
use Rattle.sqlite.specs.Given.{row_if}
use Rattle.sqlite.specs.Held.{state}
use Rattle.sqlite.proofs.Callers.{unchanged_then}
use Rattle.journal_verification.specs.Reading.{HasNext}
use Rattle.journal_verification.specs.Same.{HaveOther, IsAnsweredBy}
use Rattle.journal_verification.specs.Texts.{rows_text}
use Rattle.journal_verification.proofs.Firsts.{both_came}
use Rattle.journal_verification.proofs.Looks.{looked_itself, told_since}
use Rattle.journal_verification.proofs.Readings.{found_row, giving_open, unchanged_itself}
use Rattle.journal_verification.proofs.SideBySide.{fails, finds, then_fails, then_finds, unchanged_on}
use Rattle.journal_verification.proofs.side_by_side.readings_differ.Goals as goal

pub reading-init : goal.reading-init
reading-init g c =
    let built = c.args.built.now.conn.now in
    let office = c.args.office.now.conn.now in
    record {
      built_reference = refl;
      office_reference = refl;
      looks = finds g.S.Store g.T.Store _ _ _ _ tt (looked_itself (state g.S.Store built) c.requires.built) (looked_itself (state g.T.Store office) c.requires.office) (λ clean is_open. unchanged_itself (state g.S.Store built) is_open)
          (λ clean. (λ is_open. unchanged_itself (state g.T.Store office) is_open, λ giving. giving, λ first at_built at_office. ([], at_built, at_office)));
    }

pub reading-preserved : goal.reading-preserved
reading-preserved g c =
    let kept = c.reading.invariant.looks in
    let more = c.in_ok-difference.ensures.looks in
    let mid = c.reading.built.conn.now in
    let middle = c.reading.office.conn.now in
    let built = c.next_differs.new.built in
    let office = c.next_differs.new.office in
    record {
      built_reference = c.next_differs.ensures.built_reference ∙ c.reading.invariant.built_reference;
      office_reference = c.next_differs.ensures.office_reference ∙ c.reading.invariant.office_reference;
      looks = then_finds g.S.Store g.T.Store _ mid _ _ middle _ tt kept _ tt more
          (λ first is_open. unchanged_then _ (state g.S.Store mid) _ (kept.of_built (more.built.clean first) is_open) (more.of_built first))
          (λ second.
          let was = kept.of_office (more.office.clean second) in
          let on = more.of_office second in (
            λ is_open. unchanged_then _ (state g.T.Store middle) _ (was.0 is_open) on.0,
            λ giving. (rw c.in_default.is at (on.1 (was.1 giving))) (found_row office.has_row office.conn.now _ c.in-Some-get.ensures),
            λ first at_built at_office.
                let before = was.2 (more.built.clean first) at_built at_office in
                both_came g.S.Store g.T.Store c.args.table built.conn.now office.conn.now before.0 _ (row_if office.has_row office.conn.now) c.in-Some-get.ensures
                (rw c.in_default.is at (on.2 first before.0 before.1 before.2)),
          ));
    }

pub returns-in_err-difference : goal.returns-in_err-difference
returns-in_err-difference g c =
    let kept = c.reading.invariant.looks in
    record {
      built_reference = search rules;
      office_reference = search rules;
      looks = then_fails g.S.Store g.T.Store _ c.reading.built.conn.now _ _ c.reading.office.conn.now _ tt kept _ c.in_err-difference.field-0.0 c.from_residual.ensures.1
          (λ clean giving. ((kept.of_office clean).0 (giving_open g.T.Store c.args.office.now.conn.now giving), (kept.of_office clean).1 giving)) c.in_err-difference.ensures.looks;
    }

pub returns-in-Some : goal.returns-in-Some
returns-in-Some g c =
    let kept = c.reading.invariant.looks in
    let more = c.in_ok-difference.ensures.looks in
    let old = state g.S.Store c.args.built.now.conn.now in
    let mid = state g.S.Store c.reading.built.conn.now in
    let built = state g.S.Store c.next_differs.new.built.conn.now in
    let before = state g.T.Store c.args.office.now.conn.now in
    let middle = state g.T.Store c.reading.office.conn.now in
    let office = state g.T.Store c.next_differs.new.office.conn.now in
    record {
      built_reference = search rules;
      office_reference = search rules;
      looks = then_finds g.S.Store g.T.Store _ c.reading.built.conn.now _ _ c.reading.office.conn.now _ tt kept _ (Some c.in-Some.difference) more (unchanged_on old mid built kept.built more.built kept.of_built more.of_built)
          (λ second.
          let also = unchanged_on before middle office kept.office more.office (λ clean. (kept.of_office clean).0) (λ clean. (more.of_office clean).0) second in (
            also,
            λ first at_built at_office.
                let since = unchanged_on old mid built kept.built more.built kept.of_built more.of_built first in
                let given = (kept.of_office (more.office.clean second)).2 (more.built.clean first) at_built at_office in
                told_since g.S.Store g.T.Store built.now office.now old.now before.now since.0.now_is also.0.now_is
                (λ a b. HaveOther g.S.Store g.T.Store c.args.table a b c.in-Some.difference) (rw c.in-Some.is at ((more.of_office second).2 first given.0 given.1 given.2)),
          ));
    }

pub returns-in_default-get : goal.returns-in_default-get
returns-in_default-get g c =
    let kept = c.reading.invariant.looks in
    let more = c.in_ok-difference.ensures.looks in
    let sql = rows_text c.args.table in
    let old = state g.S.Store c.args.built.now.conn.now in
    let mid = state g.S.Store c.reading.built.conn.now in
    let built = c.next_differs.new.built.conn.now in
    let before = state g.T.Store c.args.office.now.conn.now in
    let middle = state g.T.Store c.reading.office.conn.now in
    let office = c.next_differs.new.office.conn.now in
    let ended : None ≡ row_if c.next_differs.new.office.has_row office = rw c.in_default-get.is at c.get.ensures in
    record {
      built_reference = search rules;
      office_reference = search rules;
      looks = then_finds g.S.Store g.T.Store _ c.reading.built.conn.now _ _ c.reading.office.conn.now _ tt kept _ None more (unchanged_on old mid (state g.S.Store built) kept.built more.built kept.of_built more.of_built)
          (λ second.
          let also = unchanged_on before middle (state g.T.Store office) kept.office more.office (λ clean. (kept.of_office clean).0) (λ clean. (more.of_office clean).0) second in (
            also,
            λ first at_built at_office.
                let since = unchanged_on old mid (state g.S.Store built) kept.built more.built kept.of_built more.of_built first in
                let given = (kept.of_office (more.office.clean second)).2 (more.built.clean first) at_built at_office in
                let told = rw c.in_default.is at ((more.of_office second).2 first given.0 given.1 given.2) in
                let whole : IsAnsweredBy g.S.Store sql (state g.S.Store built).now given.0 = subst (HasNext g.S.Store sql built given.0) (sym ended) told.0 in
                let other : IsAnsweredBy g.T.Store sql (state g.T.Store office).now given.0 = subst (HasNext g.T.Store sql office given.0) (sym ended) told.1 in
                let both = told_since g.S.Store g.T.Store (state g.S.Store built).now (state g.T.Store office).now old.now before.now since.0.now_is also.0.now_is
                (λ a b. IsAnsweredBy g.S.Store sql a given.0 × IsAnsweredBy g.T.Store sql b given.0) (whole, other) in
                (given.0, both.0, both.1),
          ));
    }

pub returns : goal.returns
returns g c =
    let looks = c.reading.invariant.looks in
    record { built_reference = search rules; office_reference = search rules; looks = fails g.S.Store g.T.Store _ _ _ _ _ _ refl looks.built looks.office (λ clean has giving. tt) }
