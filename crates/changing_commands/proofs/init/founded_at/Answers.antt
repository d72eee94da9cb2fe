use Rattle.std.proofs.Common.{rules, ◌≡◌, Err, ap, inl, inr, refl, subst, sym, ◌∙◌}
use Rattle.sqlite.specs.Held.{Held, state}
use Rattle.sqlite.specs.State.{HasCleanDisk}
use Rattle.changing_commands.proofs.init.founded_at.Goals as goal

pub returns-in-Ok-clause-founded : goal.returns-in-Ok-clause-founded
returns-in-Ok-clause-founded g c =
    let unlimited = c.in_ok-conn.ensures.opened in
    record {
      was = unlimited.0;
      opened = unlimited.1;
      empty = sym (ap (λ (x : Held _). x.schema) unlimited.2) ∙ c.in-Ok.ensures.empty;
      clean = λ clean. subst (λ (x : Held _). HasCleanDisk (state g.S.Store x)) unlimited.2 (c.in-Ok.ensures.clean clean);
      founded = c.in-Ok.ensures.founded;
    }

pub returns-in-Err-clause-refused : goal.returns-in-Err-clause-refused
returns-in-Err-clause-refused g c =
    inr (inr (
      c.in-Err.fault,
      refl,
      (
        c.in_ok-conn.conn,
        c.in-Err.conn,
        c.in_ok-conn.ensures.opened,
        c.in-Err.ensures.refused,
        (c.close.result, c.close.ensures.ended),
      ),
    ))

pub returns-in_err-conn-clause-refused : goal.returns-in_err-conn-clause-refused
returns-in_err-conn-clause-refused g c =
    let told : c.from_residual.result ≡ Err c.in_err-conn.field-0.0 = search rules in
    rw told (inr (inl (tt {0}, c.in_err-conn.ensures.fault)))
