use Rattle.std.proofs.Common.{rules, ◌≡◌, Err, ◌∙◌, ℕ, List, sym, subst}
use Rattle.review_office.specs.Meant.{meaning_over}
use Rattle.journal.specs.Told.{place, placed_meant}
use Rattle.journal.proofs.SeenFacts.{seen_asked}
use Rattle.journal_office.specs.Rebuilt.{IsRebuilt, IsRefused}
use Rattle.journal_office.proofs.Refusals.{none_behind, stopped, unbegun_refused}
use Rattle.journal_office.proofs.Unlawful.{refutes}
use Rattle.journal_office.proofs.office.rebuild.Goals as goal

pub returns-in_err-replay-clause-unlawful : goal.returns-in_err-replay-clause-unlawful
returns-in_err-replay-clause-unlawful g c =
    let told : c.from_residual.result ≡ Err c.in_err-replay.field-0.0 = search rules in
    rw told (let refusal = c.in_err-replay.field-0.0 in
    let bytes = g.R.Read.remaining c.args.journal in
    refutes g.S.Store bytes c.args.conn refusal.1 refusal.0.line refusal.0.why
    (unbegun_refused g.S.Store bytes c.args.conn refusal.1 refusal.0.line refusal.0.why c.in_err-replay.ensures.unbegun))

pub returns-in_err-replay-clause-rebuilt : goal.returns-in_err-replay-clause-rebuilt
returns-in_err-replay-clause-rebuilt g c =
    let told : c.from_residual.result ≡ Err c.in_err-replay.field-0.0 = search rules in
    rw told (let refusal = c.in_err-replay.field-0.0 in
    unbegun_refused g.S.Store (g.R.Read.remaining c.args.journal) c.args.conn refusal.1 refusal.0.line refusal.0.why c.in_err-replay.ensures.unbegun)

pub returns-in-Ok-clause-rebuilt : goal.returns-in-Ok-clause-rebuilt
returns-in-Ok-clause-rebuilt g c =
    let bytes = g.R.Read.remaining c.args.journal in
    let rebuilt = c.in-Ok.ensures.replayed bytes (placed_meant c.in_ok-replay.first) c.in_ok-replay.ensures.begun c.in_ok-replay.ensures.count in
    let m = meaning_over g.S.Store in
    let office = c.into_office-office.result in
    let end = place g.R.Read.remaining c.replay_rest-replayed.new.replay.events in
    subst (λ (n : ℕ). IsRebuilt bytes m n c.seal-seal.result c.taken-lines.result office) (sym c.count-events.ensures)
    (subst (λ (s : List ℕ). IsRebuilt bytes m c.replay_rest-replayed.new.replay.count s c.taken-lines.result office) (sym c.seal-seal.ensures)
    (subst (λ (n : ℕ). IsRebuilt bytes m c.replay_rest-replayed.new.replay.count end.seal n office) (sym c.taken-lines.ensures)
    (subst (λ o. IsRebuilt bytes m c.replay_rest-replayed.new.replay.count end.seal end.taken o) (sym c.into_office-office.ensures) rebuilt)))

pub returns-in-Err-clause-rebuilt : goal.returns-in-Err-clause-rebuilt
returns-in-Err-clause-rebuilt g c =
    let bytes = g.R.Read.remaining c.args.journal in
    let refused = c.in-Err.refused in
    let left = c.replay_rest-replayed.new.replay.office in
    let stops = c.in-Err.ensures.replayed bytes (placed_meant c.in_ok-replay.first) c.in_ok-replay.ensures.begun c.in_ok-replay.ensures.count in
    subst (λ left. IsRefused bytes g.S.Store c.args.conn left refused.line refused.why) (sym (c.into_connection.ensures.connection ∙ c.into_office-office.ensures))
    (none_behind g.S.Store bytes c.args.conn left refused.line refused.why (stopped (meaning_over g.S.Store) bytes left (place g.R.Read.remaining c.replay_rest-replayed.new.replay.events) refused stops))

pub returns-in-Err-clause-unlawful : goal.returns-in-Err-clause-unlawful
returns-in-Err-clause-unlawful g c =
    let bytes = g.R.Read.remaining c.args.journal in
    let refused = c.in-Err.refused in
    let left = c.replay_rest-replayed.new.replay.office in
    let stops = c.in-Err.ensures.replayed bytes (placed_meant c.in_ok-replay.first) c.in_ok-replay.ensures.begun c.in_ok-replay.ensures.count in
    refutes g.S.Store bytes c.args.conn c.into_connection.result refused.line refused.why
    (subst (λ left. IsRefused bytes g.S.Store c.args.conn left refused.line refused.why) (sym (c.into_connection.ensures.connection ∙ c.into_office-office.ensures))
    (none_behind g.S.Store bytes c.args.conn left refused.line refused.why (stopped (meaning_over g.S.Store) bytes left (place g.R.Read.remaining c.replay_rest-replayed.new.replay.events) refused stops)))

pub returns-in-Ok-clause-at : goal.returns-in-Ok-clause-at
returns-in-Ok-clause-at g c =
    let bytes = g.R.Read.remaining c.args.journal in
    let end = c.replay_rest-replayed.new.replay.events in
    let read = c.in-Ok.ensures.read in
    let seen = c.in-Ok.ensures.seen bytes (c.in_ok-replay.ensures.seen read) in
    seen_asked bytes (place g.R.Read.remaining end) end.at c.kept_lines.result c.args.line c.seal_asked-at.result (c.in-Ok.ensures.line ∙ c.in_ok-replay.ensures.line read) c.kept_lines.ensures
    seen.1 seen.0 c.seal_asked-at.ensures
