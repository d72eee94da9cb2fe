use Rattle.std.proofs.Common.{◌≡◌, ◌+◌, refl, ap, subst, ◌∙◌, arith, length, false, MatchOption}
use Rattle.sealed_log.specs.Told.{IsSeal, body_in, is_sealed}
use Rattle.sealed_log.specs.Lines.{IsFound}
use Rattle.sealed_log.proofs.FaultFacts.{later_itself, left_met, without_memory}
use Rattle.sealed_log.proofs.ReaderFacts.{stepped, stopped, ended}
use Rattle.sealed_log.proofs.reader.Reader.next.Goals as goal

pub returns-clause-next : goal.returns-clause-next
returns-clause-next g c = λ clean long.
    let seen = g.D.Disk.seen c.args.disk.now in
    let old = c.args.self.now in
    (refl, ended seen old (subst (IsFound seen old.at) c.in-None.is (c.in_ok-line.ensures.line clean long)))

pub returns-in-Some-clause-next : goal.returns-in-Some-clause-next
returns-in-Some-clause-next g c = λ clean long.
    let seen = g.D.Disk.seen c.args.disk.now in
    let old = c.args.self.now in
    let found = subst (IsFound seen old.at) c.in-Some.is (c.in_ok-line.ensures.line clean long) in
    let line = c.deref.result.now in
    let unsealed = subst (λ f. MatchOption f (is_sealed old.seal line ≡ false) (IsSeal old.seal line)) c.in-None-2.is c.in_ok-seal-in-Some.ensures in
    (refl, stopped seen c.in-Some.line.items old found (subst (λ l. is_sealed old.seal l ≡ false) c.deref.ensures.value unsealed))

pub returns-in-Some-2-clause-next : goal.returns-in-Some-2-clause-next
returns-in-Some-2-clause-next g c = λ clean long.
    let seen = g.D.Disk.seen c.args.disk.now in
    let old = c.args.self.now in
    let found = subst (IsFound seen old.at) c.in-Some.is (c.in_ok-line.ensures.line clean long) in
    let line = c.deref.result.now in
    let has = subst (λ f. MatchOption f (is_sealed old.seal line ≡ false) (IsSeal old.seal line)) c.in-Some-2.is c.in_ok-seal-in-Some.ensures in
    let sealed = subst (λ l. IsSeal old.seal l c.in-Some-2.seal) c.deref.ensures.value has in
    let at : old.at + (c.len.result + 1) ≡ old.at + length c.in-Some.line.items + 1 = omega arith in
    stepped seen c.in-Some.line.items c.in_ok-body-in-Some-2.body.items old _ found sealed at
    (c.in_ok-body-in-Some-2.ensures ∙ ap body_in c.deref-in-Some-2.ensures.value)

pub returns-in_err-line-clause-word : goal.returns-in_err-line-clause-word
returns-in_err-line-clause-word g c = λ clean long.
    left_met g.D.Disk c.args.disk.now c.args.disk.now c.read_line.new.disk c.from_residual.result c.in_err-line.field-0.0 c.from_residual.ensures.1
    (later_itself g.D.Disk c.args.disk.now) (c.in_err-line.ensures.word clean long)

pub returns-in_err-seal-in-Some-clause-word : goal.returns-in_err-seal-in-Some-clause-word
returns-in_err-seal-in-Some-clause-word g c = λ clean long.
    without_memory g.D.Disk c.args.disk.now c.read_line.new.disk c.from_residual-in_err-seal-in-Some.result
    c.from_residual-in_err-seal-in-Some.ensures.1

pub returns-in_err-body-in-Some-2-clause-word : goal.returns-in_err-body-in-Some-2-clause-word
returns-in_err-body-in-Some-2-clause-word g c = λ clean long.
    without_memory g.D.Disk c.args.disk.now c.read_line.new.disk c.from_residual-in_err-body-in-Some-2.result
    c.from_residual-in_err-body-in-Some-2.ensures.1
