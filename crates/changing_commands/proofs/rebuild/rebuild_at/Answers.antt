use Rattle.std.proofs.Common.{rules, ◌≡◌, ℕ, Err, Option, Some, inl, inr, subst}
use Rattle.command_host.specs.ReadFaults.{IsToldOf}
use Rattle.command_host.specs.Openings.{IsClosed, IsEnded}
use Rattle.command_host.specs.declared.fault.CommandFault.{CommandFault}
use Rattle.changing_commands.proofs.rebuild.rebuild_at.Goals as goal

pub returns-in_err-text-clause-failed : goal.returns-in_err-text-clause-failed
returns-in_err-text-clause-failed g c =
    let told : c.from_residual.result ≡ Err c.in_err-text.field-0.0 = search rules in
    rw told (inl c.in_err-text.ensures.none)

pub returns-in_err-conn-clause-failed : goal.returns-in_err-conn-clause-failed
returns-in_err-conn-clause-failed g c =
    let told : c.from_residual-in_err-conn.result ≡ Err c.in_err-conn.field-0.0 = search rules in
    rw told (inr (inl c.in_err-conn.ensures.fault))

pub returns-in-Ok-clause-rebuilt : goal.returns-in-Ok-clause-rebuilt
returns-in-Ok-clause-rebuilt g c =
    let made = c.in-Ok in
    record {
      text = _;
      journal = c.in_ok-text.ensures.text;
      was = c.in_ok-conn.conn;
      opened = c.in_ok-conn.ensures.opened;
      empty = made.ensures.empty;
      office = made.rebuilt.office;
      clean = made.ensures.clean;
      lines = made.rebuilt.lines;
      rebuilt = made.ensures.built;
      closed = subst (λ (n : ℕ). IsClosed g.D.Databases.closed made.rebuilt.office (Some n)) c.mark_of_lines.ensures c.in_ok-close-in-Ok.ensures.closed;
    }

pub returns-in_err-close-in-Ok-clause-failed : goal.returns-in_err-close-in-Ok-clause-failed
returns-in_err-close-in-Ok-clause-failed g c =
    let told : c.from_residual-in_err-close-in-Ok.result ≡ Err c.in_err-close-in-Ok.field-0.0 = search rules in
    rw told (let made = c.in-Ok in
    inr (inr (inr (
      record { events = made.rebuilt.events; seal = made.rebuilt.seal },
      record {
        text = _;
        journal = c.in_ok-text.ensures.text;
        was = c.in_ok-conn.conn;
        opened = c.in_ok-conn.ensures.opened;
        empty = made.ensures.empty;
        office = made.rebuilt.office;
        clean = made.ensures.clean;
        lines = made.rebuilt.lines;
        rebuilt = made.ensures.built;
        closed = subst (λ (n : ℕ). IsEnded g.D.Databases made.rebuilt.office (Some n)) c.mark_of_lines.ensures c.in_err-close-in-Ok.ensures.ended;
      },
      c.in_err-close-in-Ok.ensures.fault,
    ))))

pub returns-clause-failed : goal.returns-clause-failed
returns-clause-failed g c =
    let refused = c.in-Err in
    inr (inr (inl (
      refused.refused,
      record {
        text = _;
        journal = c.in_ok-text.ensures.text;
        was = c.in_ok-conn.conn;
        left = refused.conn;
        opened = c.in_ok-conn.ensures.opened;
        unbuilt = refused.ensures.unbuilt;
        closed = subst (λ (m : Option ℕ). IsEnded g.D.Databases refused.conn m) c.mark_before.ensures
            (c.close-in-Err.result, c.close-in-Err.ensures.ended);
      },
      subst (λ (met : CommandFault). IsToldOf g.F.PassFiles.gives met c.told_of_text.result) c.fault_of.ensures c.told_of_text.ensures.cause,
    )))
