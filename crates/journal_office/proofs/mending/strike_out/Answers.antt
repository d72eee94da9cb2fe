use Rattle.std.proofs.Common.{◌∙◌, ◌≤◌, ◌++◌, ℕ, List, [], ◌∷◌, length, sym, ap, subst, arith}
use Rattle.sealed_log.specs.Log.{bodies_of}
use Rattle.sealed_log.specs.Sealed.{IsBody, longest, seal_of, sealed_line}
use Rattle.sealed_log.specs.Told.{HasTail}
use Rattle.sealed_log.proofs.SealFacts.{length-sealed_line}
use Rattle.journal.proofs.Lengths.{strike_entry}
use Rattle.journal_faults.specs.Faults.{log_fault}
use Rattle.journal_office.specs.Mending.{IsStruckOut}
use Rattle.journal_office.proofs.MendFacts.{by_met, left_with, log_outside}
use Rattle.journal_office.proofs.mending.strike_out.Goals as goal

-- a line that strikes out is no longer than the longest
no_longer : (seal body : List ℕ) → IsBody body → length (sealed_line seal body) ≤ longest
no_longer seal body is = omega (arith, length-sealed_line seal body, is.fits)

wider : (bytes : List ℕ) (less more : ℕ) → less ≤ more → (left : List ℕ) → HasTail bytes less left → HasTail bytes more left
wider bytes less more within left has = record { tail = has.tail; short = omega (arith, within, has.short); is = has.is }

pub put-requires : goal.put-requires
put-requires g c = subst IsBody (sym (c.as_bytes.ensures.value ∙ c.in_ok-text.ensures.text)) strike_entry.body

pub returns-in_err-put : goal.returns-in_err-put
returns-in_err-put g c =
    left_with (IsStruckOut g.D.Disk c.args.log.now c.put.new.self) c.from_residual-in_err-put.result (log_fault c.in_err-put.field-0.0) c.from_residual-in_err-put.ensures.1 (record {
      clean = c.in_err-put.ensures.clean;
      opened = tt;
      bodies = λ clean. tt;
      why = log_outside c.in_err-put.field-0.0;
      word = λ is_open clean. by_met g.D.Disk c.args.log.now.disk c.put.new.self.disk c.in_err-put.field-0.0 (c.in_err-put.ensures.word clean is_open);
      crash = λ is_open clean left may.
          wider _ _ longest (no_longer (seal_of (bodies_of g.D.Disk c.args.log.now)) c.as_bytes.result.now (subst IsBody (sym (c.as_bytes.ensures.value ∙ c.in_ok-text.ensures.text)) strike_entry.body))
          left (c.in_err-put.ensures.crash is_open clean left may);
    })

pub returns : goal.returns
returns g c = record {
  clean = c.in_ok-put.ensures.clean;
  opened = c.in_ok-put.ensures.appended.0;
  bodies = λ clean. c.in_ok-put.ensures.appended.1 clean ∙ ap (λ b. bodies_of g.D.Disk c.args.log.now ++ b ∷ []) (c.as_bytes.ensures.value ∙ c.in_ok-text.ensures.text);
  why = tt;
  word = λ is_open clean. tt;
  crash = λ is_open clean left may.
      wider _ _ longest (no_longer (seal_of (bodies_of g.D.Disk c.args.log.now)) c.as_bytes.result.now (subst IsBody (sym (c.as_bytes.ensures.value ∙ c.in_ok-text.ensures.text)) strike_entry.body))
      left (c.in_ok-put.ensures.crash is_open clean left may);
}
