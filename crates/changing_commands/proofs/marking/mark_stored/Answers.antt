use Rattle.std.proofs.Common.{rules, ◌≡◌, ℕ, Ok, Err, inl, inr, refl, subst}
use Rattle.command_host.specs.Outside.{known}
use Rattle.changing_commands.specs.Journals.{IsServedWith, IsUnkept}
use Rattle.changing_commands.proofs.KeptFacts.{kept_there, unkept_there, was_only_kept}
use Rattle.changing_commands.proofs.marking.mark_stored.Goals as goal

pub returns-in_err-kept : goal.returns-in_err-kept
returns-in_err-kept g c =
    let told : c.from_residual-in_err-kept.result ≡ Err c.in_err-kept.field-0.0 = search rules in
    let k = known c.args.host.now in
    let why = c.in_err-kept.field-0.0 in
    let path = c.args.path.now in
    let finds = k.finds c.args.journal.now in
    rw told (inr (
      c.in_ok-conn.mark,
      c.in_ok-conn.ensures.opened.1,
      inl (subst (λ (n : ℕ). IsUnkept k.store k.log finds k.databases path n why) c.least_lines.ensures
          (unkept_there k.store k.log finds k.databases path c.least_lines.result c.in_ok-conn.conn c.in_ok-conn.ensures.opened.0 {A = Unit {0}} (Err why) c.in_err-kept.ensures.fault)),
    ))

pub returns : goal.returns
returns g c =
    let k = known c.args.host.now in
    let path = c.args.path.now in
    let finds = k.finds c.args.journal.now in
    inr (
      c.in_ok-conn.mark,
      c.in_ok-conn.ensures.opened.1,
      inr (subst (λ (n : ℕ). IsServedWith k.store k.log finds k.databases path n (λ old new. new ≡ old) (λ why old new. ⊥) c.close_kept.result) c.least_lines.ensures
          (was_only_kept k.store k.log finds k.databases path c.least_lines.result (λ old new. new ≡ old) (λ why old new. ⊥) c.in_ok-kept.kept
          (kept_there k.store k.log finds k.databases path c.least_lines.result c.in_ok-conn.conn c.in_ok-conn.ensures.opened.0 {E = Unit {0}} (Ok c.in_ok-kept.kept) c.in_ok-kept.ensures.opened)
          c.close_kept.result refl c.close_kept.ensures.closed c.close_kept.ensures.ended c.close_kept.ensures.fault)),
    )
