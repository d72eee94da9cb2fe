use Rattle.std.proofs.Common.{rules, ◌≡◌, ◌∙◌, Err, refl, sym}
use Rattle.sqlite.specs.Held.{state}
use Rattle.office_words.specs.declared.fault.Fault.TheVariants.{NoMemory}
use Rattle.no_memory.specs.Witness.{witness}
use Rattle.office_judging.proofs.Judging.{read_as, read_both, read_in_vain, second_fails}
use Rattle.office_judging.proofs.Enrolments.{itself_found, users_found}
use Rattle.office_judging.proofs.enrol.users_of.Goals as goal

pub returns-in_err-itself : goal.returns-in_err-itself
returns-in_err-itself g c =
    let e : c.from_residual-in_err-itself.result ≡ Err (NoMemory witness) = search rules in
    rw e (read_in_vain (state g.S.Store c.args.conn.now) (state g.S.Store c.user_by_name.new.conn) _ _ c.in_ok-known.known (NoMemory witness) refl c.in_ok-known.ensures.read)

pub returns-then-is_some : goal.returns-then-is_some
returns-then-is_some g c =
    read_as (state g.S.Store c.args.conn.now) (state g.S.Store c.user_by_name.new.conn) _ _ c.in_ok-known.known _
    (λ t is. itself_found c.args.user.now c.args.digest.now c.in_ok-known.known c.in_ok-itself.itself t is c.in_ok-itself.ensures (sym c.is_some.ensures ∙ c.if-is_some.true)) c.in_ok-known.ensures.read

pub returns-in_err-shower : goal.returns-in_err-shower
returns-in_err-shower g c =
    let e : c.from_residual-in_err-shower.result ≡ Err c.in_err-shower.field-0.0 = search rules in
    rw e (second_fails (state g.S.Store c.args.conn.now) (state g.S.Store c.user_by_name.new.conn) (state g.S.Store c.user_by_token.new.conn) _ _ _
    c.in_ok-known.ensures.read _ _ c.in_err-shower.ensures.read)

pub returns : goal.returns
returns g c =
    read_both (state g.S.Store c.args.conn.now) (state g.S.Store c.user_by_name.new.conn) (state g.S.Store c.user_by_token.new.conn) _ _ _
    c.in_ok-known.ensures.read _ _ _ (users_found c.args.user.now c.args.digest.now c.in_ok-known.known c.in_ok-shower.shower) c.in_ok-shower.ensures.read
