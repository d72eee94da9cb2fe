use Rattle.std.proofs.Common.{inr, List, ℕ, sym, subst}
use Rattle.sealed_log.proofs.DiskFacts.{crash_in_cut, err_usable, ok_usable, on_err, on_ok, settle_cut}
use Rattle.sealed_log.proofs.FaultFacts.{later_by_write, left_with, write_failed, write_fails}
use Rattle.sealed_log.specs.Faults.{HasFailed}
use Rattle.sqlite_disk.specs.Disk.{Only}
use Rattle.sqlite_disk.specs.Refusal.{is_no_room}
use Rattle.sealed_log.proofs.written.cut.Goals as goal

pub returns-in_err-set_len-clause-crash : goal.returns-in_err-set_len-clause-crash
returns-in_err-set_len-clause-crash g c = λ bytes most is leaves.
    crash_in_cut g.D.Disk c.args.disk.now c.set_len.new.self bytes c.args.end most is leaves c.set_len.ensures.crash

pub returns-clause-cut : goal.returns-clause-cut
returns-clause-cut g c =
    on_ok c.sync.result _ _ c.sync.ensures.durable λ only bytes most is has.
    settle_cut g.D.Disk c.args.disk.now c.set_len.new.self c.sync.new.self bytes c.args.end most is has
    c.set_len.ensures.others c.in_ok-set_len.ensures.len c.sync.ensures.seen only

pub returns-clause-crash : goal.returns-clause-crash
returns-clause-crash g c = λ bytes most is leaves left may.
    crash_in_cut g.D.Disk c.args.disk.now c.set_len.new.self bytes c.args.end most is leaves c.set_len.ensures.crash
    left (c.sync.ensures.crash left may)

pub returns-clause-usable : goal.returns-clause-usable
returns-clause-usable g c = ok_usable c.sync.result _ c.sync.ensures.usable

pub returns-clause-settled : goal.returns-clause-settled
returns-clause-settled g c =
    on_ok c.sync.result _ _ c.sync.ensures.durable λ only.
    subst (λ (file : List ℕ). Only file (g.D.Disk.may_leave c.sync.new.self)) (sym c.sync.ensures.seen) only

pub returns-in_err-set_len-clause-failed : goal.returns-in_err-set_len-clause-failed
returns-in_err-set_len-clause-failed g c = on_err _ _ (inr c.in_err-set_len.ensures.faults.0)

pub returns-clause-failed : goal.returns-clause-failed
returns-clause-failed g c = err_usable c.sync.result _ _ c.sync.ensures.usable

pub returns-in_err-set_len-clause-call : goal.returns-in_err-set_len-clause-call
returns-in_err-set_len-clause-call g c =
    left_with (λ error. HasFailed g.D.Disk c.args.disk.now c.set_len.new.self (is_no_room error)) c.from_residual.result c.in_err-set_len.field-0.0 c.from_residual.ensures.1
    (write_failed g.D.Disk c.args.disk.now c.set_len.new.self c.in_err-set_len.field-0.0 c.in_err-set_len.ensures.faults.0 c.in_err-set_len.ensures.tally)

pub returns-clause-call : goal.returns-clause-call
returns-clause-call g c =
    write_fails g.D.Disk c.args.disk.now c.set_len.new.self c.sync.new.self c.sync.result (later_by_write g.D.Disk c.args.disk.now c.set_len.new.self c.set_len.result c.set_len.ensures.faults c.set_len.ensures.tally)
    c.sync.ensures.faults c.sync.ensures.tally
