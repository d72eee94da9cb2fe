use Rattle.std.proofs.Common.{rules, ◌≡◌, ◌<◌, Err, ◌∙◌, ◌-◌, ◌^◌, ℕ, List, min, arith, inl, inr, subst, sym}
use Rattle.std.proofs.Math.Nat.{min-eq_left}
use Rattle.sqlite.specs.Held.{state}
use Rattle.sqlite.specs.State.{HasCleanDisk}
use Rattle.review_office.specs.Meant.{meaning_over}
use Rattle.journal.specs.Told.{place, placed_meant}
use Rattle.journal_office.specs.Rebuilt.{IsRebuilt}
use Rattle.journal_office.specs.Rebuilding.{IsHalted}
use Rattle.journal_office.proofs.rebuilding.rebuild_as_read.Goals as goal

pub returns-in_err-replay-clause-unbuilt : goal.returns-in_err-replay-clause-unbuilt
returns-in_err-replay-clause-unbuilt g c =
    let told : c.from_residual.result ≡ Err c.in_err-replay.field-0.0 = search rules in
    rw told (inl c.in_err-replay.ensures.unbegun)

pub returns-in-Ok-clause-built : goal.returns-in-Ok-clause-built
returns-in-Ok-clause-built g c =
    let bytes = g.R.Read.remaining c.args.journal in
    let m = meaning_over g.S.Store in
    let count = c.replay_as_read-rebuilt.new.replay.count in
    let end = place g.R.Read.remaining c.replay_as_read-rebuilt.new.replay.events in
    let built = c.in-Ok.ensures.built bytes (placed_meant c.in_ok-replay.first) c.in_ok-replay.ensures.begun c.in_ok-replay.ensures.count in
    record {
      count = c.count-events.result;
      rebuilt = subst (λ (n : ℕ). IsRebuilt bytes m n c.seal-seal.result c.taken-lines.result c.into_office-office.result) (sym c.count-events.ensures)
          (subst (λ (s : List ℕ). IsRebuilt bytes m count s c.taken-lines.result c.into_office-office.result) (sym c.seal-seal.ensures)
          (subst (λ (n : ℕ). IsRebuilt bytes m count end.seal n c.into_office-office.result) (sym c.taken-lines.ensures)
          (subst (λ o. IsRebuilt bytes m count end.seal end.taken o) (sym c.into_office-office.ensures) built)));
      shown = let small : c.count-events.result < 2 ^ 64 = search rules in sym (min-eq_left (omega (arith, small)));
    }

pub returns-in-Err-clause-unbuilt : goal.returns-in-Err-clause-unbuilt
returns-in-Err-clause-unbuilt g c =
    let bytes = g.R.Read.remaining c.args.journal in
    let m = meaning_over g.S.Store in
    let refused = c.in-Err.refused in
    inr (
      c.in_ok-replay.ensures.empty,
      subst (λ left. HasCleanDisk (state g.S.Store left) → HasCleanDisk (state g.S.Store c.args.conn)) (sym (c.into_connection.ensures.connection ∙ c.into_office-office.ensures))
          (λ clean. c.in_ok-replay.ensures.clean (c.replay_as_read-rebuilt.ensures.clean clean)),
      subst (λ left. IsHalted bytes m left refused.line refused.why) (sym (c.into_connection.ensures.connection ∙ c.into_office-office.ensures))
          (c.in-Err.ensures.built bytes (placed_meant c.in_ok-replay.first) c.in_ok-replay.ensures.begun c.in_ok-replay.ensures.count),
    )
