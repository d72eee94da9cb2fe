use Rattle.std.proofs.Common.{rules, ◌≡◌, Err, map, sym, subst, arith, ◌<◌, ◌≤◌, length, inl, inr}
use Rattle.sqlite.specs.Effect.{Database}
use Rattle.sqlite.specs.Held.{state}
use Rattle.sqlite.specs.State.{HasCleanDisk, Survives}
use Rattle.office_rows.specs.Statements.{statement_of, begun, RanAll, IsUndone, FailedIn, RefusedIn}
use Rattle.office_rows.proofs.Transactions.{IsUnderWay, one_more, first_left, none_left, committed_all}
use Rattle.office_rows.specs.Causes.{HasFailed}
use Rattle.office_rows.specs.Faults.{fault_of_error}
use Rattle.office_rows.proofs.Sure.{statement_met, commit_met, met_between, was_shut}
use Rattle.office_rows.proofs.transaction.run_all.Goals as goal

pub loop-statement-preserved : goal.loop-statement-preserved
loop-statement-preserved g c =
    let below : c.loop-statement.statement-index < length c.args.statements.now = search rules in
    let left = first_left c.args.statements.now c.loop-statement.statement-index below in (
      search rules,
      one_more g.S.Store _ _ _ c.args.conn.now c.loop-statement.tx.conn.now c.execute.new.self.conn.now c.in_ok-execute.field-0
          (subst (λ l. IsUnderWay g.S.Store (map statement_of c.args.statements.now) l c.args.conn.now c.loop-statement.tx.conn.now) left c.loop-statement.invariant.1)
          c.execute.ensures.survives c.in_ok-execute.ensures.runs,
    )

pub returns-in_err-execute-clause-cause : goal.returns-in_err-execute-clause-cause
returns-in_err-execute-clause-cause g c clean =
    let below : c.loop-statement.statement-index < length c.args.statements.now = search rules in
    let left = first_left c.args.statements.now c.loop-statement.statement-index below in
    let it = c.loop-statement.invariant.1 in
    let end : HasCleanDisk (state g.S.Store c.drop-tx.new.self.0) = search rules in
    let late : HasCleanDisk (state g.S.Store c.execute.new.self.conn.now) = omega (arith, c.drop-tx.ensures.survives.clean) in
    let before : HasCleanDisk (state g.S.Store c.loop-statement.tx.conn.now) = omega (arith, c.execute.ensures.survives.clean) in
    let is : c.from_residual.result ≡ Err c.in_err-execute.field-0.0 = search rules in
    let same : c.drop-tx.new.self.0 ≡ c.conn-1.given.0 = search rules in
    let undone : IsUndone g.S.Store c.execute.new.self.conn.now c.drop-tx.new.self.0 = record { undone = c.drop-tx.ensures.undone end; counts = c.drop-tx.ensures.survives.counts } in
    rw is
    (subst (λ h. FailedIn g.S.Store (map statement_of c.args.statements.now) (begun c.args.conn.now) h c.in_err-execute.field-0.0) same
    (it.failed before c.drop-tx.new.self.0 c.in_err-execute.field-0.0
    (subst (λ l. FailedIn g.S.Store l c.loop-statement.tx.conn.now c.drop-tx.new.self.0 c.in_err-execute.field-0.0) (sym left)
    (inl (c.execute.new.self.conn.now, c.in_err-execute.ensures.runs late (it.mode before), undone)))))

pub returns-in_err-commit-clause-cause : goal.returns-in_err-commit-clause-cause
returns-in_err-commit-clause-cause g c clean =
    let all : length c.args.statements.now ≤ c.loop-statement.statement-index = search rules in
    let left = none_left c.args.statements.now c.loop-statement.statement-index all in
    let it = c.loop-statement.invariant.1 in
    let end : HasCleanDisk (state g.S.Store c.commit.new.self.0) = search rules in
    let before : HasCleanDisk (state g.S.Store c.loop-statement.tx.conn.now) = omega (arith, c.commit.ensures.survives.clean) in
    let is : c.from_residual-in_err-commit.result ≡ Err c.in_err-commit.field-0.0 = search rules in
    let same : c.commit.new.self.0 ≡ c.conn-2-1.given.0 = search rules in
    rw is
    (subst (λ h. FailedIn g.S.Store (map statement_of c.args.statements.now) (begun c.args.conn.now) h c.in_err-commit.field-0.0) same
    (it.failed before c.commit.new.self.0 c.in_err-commit.field-0.0
    (subst (λ l. FailedIn g.S.Store l c.loop-statement.tx.conn.now c.commit.new.self.0 c.in_err-commit.field-0.0) (sym left) (c.in_err-commit.ensures.err end))))

pub returns-in_err-execute-clause-met : goal.returns-in_err-execute-clause-met
returns-in_err-execute-clause-met g c clean =
    let below : c.loop-statement.statement-index < length c.args.statements.now = search rules in
    let left = first_left c.args.statements.now c.loop-statement.statement-index below in
    let it = c.loop-statement.invariant.1 in
    let end : HasCleanDisk (state g.S.Store c.drop-tx.new.self.0) = search rules in
    let late : HasCleanDisk (state g.S.Store c.execute.new.self.conn.now) = omega (arith, c.drop-tx.ensures.survives.clean) in
    let before : HasCleanDisk (state g.S.Store c.loop-statement.tx.conn.now) = omega (arith, c.execute.ensures.survives.clean) in
    let is : c.from_residual.result ≡ Err c.in_err-execute.field-0.0 = search rules in
    let ran = c.in_err-execute.ensures.runs late (it.mode before) in
    let same : c.drop-tx.new.self.0 ≡ c.conn-1.given.0 = search rules in
    rw is
    (elim (statement_met _ _ (state g.S.Store c.loop-statement.tx.conn.now) (state g.S.Store c.execute.new.self.conn.now) c.in_err-execute.field-0.0 ran) [
      | inl failed ↦ inl (subst (λ h. HasFailed (state g.S.Store c.args.conn.now) (state g.S.Store h) (fault_of_error c.in_err-execute.field-0.0)) same
          (met_between (state g.S.Store c.args.conn.now) (state g.S.Store c.loop-statement.tx.conn.now) (state g.S.Store c.execute.new.self.conn.now) (state g.S.Store c.drop-tx.new.self.0) _
          it.survives.counts c.drop-tx.ensures.survives.counts (was_shut _ _ (it.stays before)) failed))
      | inr refused ↦ inr (it.refused before c.in_err-execute.field-0.0
          (subst (λ l. RefusedIn g.S.Store l c.loop-statement.tx.conn.now c.in_err-execute.field-0.0) (sym left) (inl (c.execute.new.self.conn.now, ran, refused))))
    ])

pub returns-in_err-commit-clause-met : goal.returns-in_err-commit-clause-met
returns-in_err-commit-clause-met g c clean =
    let it = c.loop-statement.invariant.1 in
    let end : HasCleanDisk (state g.S.Store c.commit.new.self.0) = search rules in
    let before : HasCleanDisk (state g.S.Store c.loop-statement.tx.conn.now) = omega (arith, c.commit.ensures.survives.clean) in
    let is : c.from_residual-in_err-commit.result ≡ Err c.in_err-commit.field-0.0 = search rules in
    let failed = commit_met (state g.S.Store c.loop-statement.tx.conn.now) (state g.S.Store c.commit.new.self.0) c.in_err-commit.field-0.0 (it.mode before) (c.in_err-commit.ensures.err end) in
    let same : c.commit.new.self.0 ≡ c.conn-2-1.given.0 = search rules in
    rw is (inl (subst (λ h. HasFailed (state g.S.Store c.args.conn.now) (state g.S.Store h) (fault_of_error c.in_err-commit.field-0.0)) same
    (met_between (state g.S.Store c.args.conn.now) (state g.S.Store c.loop-statement.tx.conn.now) (state g.S.Store c.commit.new.self.0) (state g.S.Store c.commit.new.self.0) _
    it.survives.counts (omega arith) (was_shut _ _ (it.stays before)) failed)))

pub returns-in_err-commit-clause-crash : goal.returns-in_err-commit-clause-crash
returns-in_err-commit-clause-crash g c =
    let all : length c.args.statements.now ≤ c.loop-statement.statement-index = search rules in
    let left = none_left c.args.statements.now c.loop-statement.statement-index all in
    let whole = committed_all g.S.Store (map statement_of c.args.statements.now) c.args.conn.now c.loop-statement.tx.conn.now c.commit.new.self.0
    (subst (λ l. IsUnderWay g.S.Store (map statement_of c.args.statements.now) l c.args.conn.now c.loop-statement.tx.conn.now) left c.loop-statement.invariant.1) c.commit.ensures.survives in
    let same : c.commit.new.self.0 ≡ c.conn-2-1.given.0 = search rules in
    subst (λ h. Survives (state g.S.Store c.args.conn.now) (state g.S.Store h) (λ trees. (db : Database) × RanAll g.S.Store (map statement_of c.args.statements.now) (begun c.args.conn.now) db × (trees ≡ db.trees))) same whole

pub returns-clause-crash : goal.returns-clause-crash
returns-clause-crash g c =
    let all : length c.args.statements.now ≤ c.loop-statement.statement-index = search rules in
    let left = none_left c.args.statements.now c.loop-statement.statement-index all in
    let whole = committed_all g.S.Store (map statement_of c.args.statements.now) c.args.conn.now c.loop-statement.tx.conn.now c.commit.new.self.0
    (subst (λ l. IsUnderWay g.S.Store (map statement_of c.args.statements.now) l c.args.conn.now c.loop-statement.tx.conn.now) left c.loop-statement.invariant.1) c.commit.ensures.survives in
    let same : c.commit.new.self.0 ≡ c.conn-2-1.given.0 = search rules in
    subst (λ h. Survives (state g.S.Store c.args.conn.now) (state g.S.Store h) (λ trees. (db : Database) × RanAll g.S.Store (map statement_of c.args.statements.now) (begun c.args.conn.now) db × (trees ≡ db.trees))) same whole
