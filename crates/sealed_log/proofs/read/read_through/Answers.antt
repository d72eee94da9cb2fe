use Rattle.std.proofs.Common.{inr, ◌≡◌, ◌∙◌, ◌<◌, ℕ, List, [], ◌∷◌, ◌++◌, IfSome, IsTrue, ap, sym, subst, length, arith}
use Rattle.sealed_log.specs.Reading.{IsNext, IsStep, told_at}
use Rattle.sealed_log.specs.Sealed.{IsBody}
use Rattle.sealed_log.proofs.FaultFacts.{later_by_read, left_met, of_read}
use Rattle.sealed_log.proofs.LineFacts.{IsRead-trans}
use Rattle.sealed_log.proofs.ReaderFacts.{gone_on, kept_on, kept_through, through}
use Rattle.sealed_log.proofs.read.read_through.Goals as goal

pub overflow_add-lines : goal.overflow_add-lines
overflow_add-lines g c =
    let before = c.lines.invariant.counted in
    let further = subst (λ f. IfSome f (λ _. c.lines.reader.at < c.next.new.self.at)) c.in-Some.is c.in_ok-body.ensures.further in
    let within = c.next.new.self.within in
    let small = c.next.new.self.small in
    omega (arith, before, further, within, small)

pub lines-preserved : goal.lines-preserved
lines-preserved g c =
    let before = c.lines.invariant in
    let seen = g.D.Disk.seen c.args.disk.now in
    let body = c.in-Some.body.items in
    let is_of = g.K.Keeps.is_of in
    let further = subst (λ f. IfSome f (λ _. c.lines.reader.at < c.next.new.self.at)) c.in-Some.is c.in_ok-body.ensures.further in
    let stepped : IsTrue (g.D.Disk.is_clean c.next.new.disk) → IsStep seen c.lines.reader c.next.new.self body = λ clean.
    let was = c.next.ensures.read.clean clean in
    let next = c.in_ok-body.ensures.next clean (before.len was ∙ ap length (sym before.read.seen)) in
    let step = subst (IsNext (g.D.Disk.seen c.lines.disk) c.lines.reader c.next.new.self) c.in-Some.is next in
    subst (λ f. IsStep f c.lines.reader c.next.new.self body) before.read.seen step in
    record {
      read = IsRead-trans g.D.Disk c.args.disk.now c.lines.disk c.next.new.disk before.read c.next.ensures.read;
      len = λ clean. c.next.ensures.len ∙ before.len (c.next.ensures.read.clean clean);
      counted = let low = before.counted in omega (arith, low, further);
      so_far = λ clean. gone_on seen body c.lines.lines c.lines.reader c.next.new.self (before.so_far (c.next.ensures.read.clean clean)) (stepped clean);
      keeps = λ clean.
          kept_on is_of seen body c.lines.lines c.lines.reader c.next.new.self c.lines.keeper c.see.new.self (before.keeps (c.next.ensures.read.clean clean)) (stepped clean)
          (subst (λ b. (bodies : List (List ℕ)) → length bodies ≡ c.lines.lines → IsBody b → is_of bodies c.lines.keeper → is_of (bodies ++ b ∷ []) c.see.new.self)
          c.deref.ensures.value c.see.ensures);
    }

pub returns-clause-through : goal.returns-clause-through
returns-clause-through g c = λ clean.
    let before = c.lines.invariant in
    let seen = g.D.Disk.seen c.args.disk.now in
    let was = c.next.ensures.read.clean clean in
    let next = c.in_ok-body.ensures.next clean (before.len was ∙ ap length (sym before.read.seen)) in
    let stops = subst (IsNext (g.D.Disk.seen c.lines.disk) c.lines.reader c.next.new.self) c.in_default.is next in
    let none = subst (λ f. told_at c.lines.reader f ≡ []) before.read.seen stops.1 in
    let made = c.through.ensures in
    through seen c.lines.lines c.lines.reader c.through.result (before.so_far was) (before.len was) none
    (made.len ∙ ap (λ r. r.len) stops.0) (made.at ∙ ap (λ r. r.at) stops.0) (made.seal ∙ ap (λ r. r.seal) stops.0) made.lines

pub returns-clause-keeps : goal.returns-clause-keeps
returns-clause-keeps g c = λ clean.
    let before = c.lines.invariant in
    let seen = g.D.Disk.seen c.args.disk.now in
    let was = c.next.ensures.read.clean clean in
    let next = c.in_ok-body.ensures.next clean (before.len was ∙ ap length (sym before.read.seen)) in
    let stops = subst (IsNext (g.D.Disk.seen c.lines.disk) c.lines.reader c.next.new.self) c.in_default.is next in
    let none = subst (λ f. told_at c.lines.reader f ≡ []) before.read.seen stops.1 in
    kept_through g.K.Keeps.is_of seen c.lines.lines c.lines.reader c.lines.keeper (before.keeps was) none

pub returns-in-Err-clause-word : goal.returns-in-Err-clause-word
returns-in-Err-clause-word g c = λ clean.
    inr (of_read g.D.Disk c.args.disk.now c.len.new.self c.in-Err.error _ c.in-Err.ensures.faults.0 c.len.ensures.tally c.of_read.ensures)

pub returns-in_err-body-clause-word : goal.returns-in_err-body-clause-word
returns-in_err-body-clause-word g c = λ clean.
    let before = c.lines.invariant in
    let was = c.next.ensures.read.clean clean in
    left_met g.D.Disk c.args.disk.now c.lines.disk c.next.new.disk c.from_residual.result c.in_err-body.field-0.0
    c.from_residual.ensures.1 (later_by_read g.D.Disk c.args.disk.now c.lines.disk before.read.counts before.read.tally) (c.in_err-body.ensures.word clean (before.len was ∙ ap length (sym before.read.seen)))
