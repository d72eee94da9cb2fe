use Rattle.std.proofs.Common.{rules, ◌≡◌, Err, refl, sym, subst}
use Rattle.sqlite.specs.Held.{state}
use Rattle.office_words.specs.declared.name.ProfileName.{ProfileName}
use Rattle.office_words.specs.declared.fault.Fault.TheVariants.{NoMemory}
use Rattle.office_words.specs.Lists.{profile_of}
use Rattle.office_store.proofs.Calls.{fails_unread}
use Rattle.office_judging.specs.Listed.{standing_of, IsOneOf}
use Rattle.office_judging.proofs.Standing.{one_listed, read_weaker}
use Rattle.office_judging.proofs.profiles.standing_in.Goals as goal
use Rattle.no_memory.specs.Witness.{witness}

pub returns-in_err-clone : goal.returns-in_err-clone
returns-in_err-clone g c =
    let e : c.from_residual.result ≡ Err (NoMemory witness) = search rules in
    rw e (fails_unread (state g.S.Store c.args.conn.now) (NoMemory witness) _ c.requires refl (g.met.S.Store.settled c.args.conn.now.store))

pub returns-in_err-clone-2 : goal.returns-in_err-clone-2
returns-in_err-clone-2 g c =
    let e : c.from_residual-in_err-clone-2.result ≡ Err (NoMemory witness) = search rules in
    rw e (fails_unread (state g.S.Store c.args.conn.now) (NoMemory witness) _ c.requires refl (g.met.S.Store.settled c.args.conn.now.store))

pub returns : goal.returns
returns g c =
    let team : c.in_ok-clone.field-0 ≡ c.args.team.now = search rules in
    let profile : c.in_ok-clone-2.field-0 ≡ c.args.first.now.profile = search rules in
    let name : ◌≡◌ {A = ProfileName} (profile_of c.in_ok-clone.field-0 c.in_ok-clone-2.field-0) (profile_of c.args.team.now c.args.first.now.profile) =
    λ i. record { team = team i; profile = profile i } in
    read_weaker (state g.S.Store c.args.conn.now) (state g.S.Store c.stands.new.conn) _ _ c.stands.result
    (λ t standing stands h lawful same first.
    let one = one_listed h c.args.team.now c.args.first.now first in
    subst (λ p. standing ≡ standing_of h p) name
    (stands h lawful same (subst (λ p. IsOneOf h p c.args.first.now.number c.args.first.now.state) (sym name) one))) c.stands.ensures
