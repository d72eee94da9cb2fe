use Rattle.std.proofs.Common.{rules, ◌≡◌, ◌∙◌, ◌+◌, Ok, Err, Some, None, [], ◌∷◌, ◌++◌, List, vec_len, refl, sym, ap, subst, arith}
use Rattle.sqlite.specs.Held.{state}
use Rattle.review_policy.specs.declared.answer.ListedProfile.{ListedProfile}
use Rattle.office_words.specs.declared.fault.Fault.TheVariants.{NoMemory}
use Rattle.office_store.specs.Calls.{IsRead}
use Rattle.office_judging.proofs.Judging.{read_as, read_both, read_in_vain, second_fails}
use Rattle.office_judging.proofs.Walking.{Walked, walk_begins, walk_goes_on, walk_ends}
use Rattle.office_judging.proofs.profiles.profiles_of.Goals as goal
use Rattle.no_memory.specs.Witness.{witness}

pub loop-init : goal.loop-init
loop-init g c =
    let old = state g.S.Store c.args.conn.now in
    let new = state g.S.Store c.first_listed.new.conn in
    let team = c.args.team.now in
    let empty : c.new-profiles.result.items ≡ [] = search rules in
    record {
      walked = subst (λ (xs : List ListedProfile). IsRead old new (Ok (xs, c.in_ok-next.next)) (Walked team)) (sym empty)
          (read_as old new _ _ c.in_ok-next.next ([], c.in_ok-next.next) (walk_begins team c.in_ok-next.next) c.in_ok-next.ensures);
      count = search rules;
    }

pub listed-requires : goal.listed-requires
listed-requires g c = c.loop.invariant.walked.leaves.idle

pub loop-preserved : goal.loop-preserved
loop-preserved g c =
    let old = state g.S.Store c.args.conn.now in
    let mid = state g.S.Store c.loop.conn in
    let new = state g.S.Store c.listed.new.conn in
    let team = c.args.team.now in
    let so_far = c.loop.profiles.items in
    let profile = c.in_ok-profile.profile in
    let later = c.in_ok-profile.later in
    let pushed : c.push.new.self.items ≡ so_far ++ profile ∷ [] = search rules in
    let walked = subst (λ next. IsRead old mid (Ok (so_far, next)) (Walked team)) c.in-Some.is c.loop.invariant.walked in
    let more : vec_len c.push.new.self ≡ vec_len c.loop.profiles + 1 = search rules in
    record {
      walked = subst (λ (xs : List ListedProfile). IsRead old new (Ok (xs, later)) (Walked team)) (sym pushed)
          (read_both old mid new _ _ (so_far, Some c.in-Some.first) walked _ (profile, later) (so_far ++ profile ∷ [], later)
          (walk_goes_on team so_far c.in-Some.first (profile, later)) c.in_ok-profile.ensures);
      count = more ∙ ap (λ n. n + 1) c.loop.invariant.count;
    }

pub returns-in_default : goal.returns-in_default
returns-in_default g c =
    let old = state g.S.Store c.args.conn.now in
    let mid = state g.S.Store c.loop.conn in
    let walked = subst (λ next. IsRead old mid (Ok (c.loop.profiles.items, next)) (Walked c.args.team.now)) c.in_default.is c.loop.invariant.walked in
    let all : c.new.result ≡ c.loop.profiles.items = search rules in
    rw all (read_as old mid _ _ (c.loop.profiles.items, None) c.loop.profiles.items (walk_ends c.args.team.now c.loop.profiles.items) walked)

pub returns-in_err-profile : goal.returns-in_err-profile
returns-in_err-profile g c =
    let old = state g.S.Store c.args.conn.now in
    let mid = state g.S.Store c.loop.conn in
    let new = state g.S.Store c.listed.new.conn in
    let e : c.from_residual-in_err-profile.result ≡ Err c.in_err-profile.field-0.0 = search rules in
    rw e (second_fails old mid new _ _ (c.loop.profiles.items, c.loop.next) c.loop.invariant.walked _ c.in_err-profile.field-0.0 c.in_err-profile.ensures)

-- no list has so many
pub unreachable-requires : goal.unreachable-requires
unreachable-requires g c = absurd (omega (arith, c.loop-test.false, c.loop.invariant.count, c.loop.profiles.small, c.loop.profiles.ok.1))

pub returns-in_err-map_err : goal.returns-in_err-map_err
returns-in_err-map_err g c =
    let old = state g.S.Store c.args.conn.now in
    let mid = state g.S.Store c.loop.conn in
    let new = state g.S.Store c.listed.new.conn in
    let team = c.args.team.now in
    let so_far = c.loop.profiles.items in
    let profile = c.in_ok-profile.profile in
    let later = c.in_ok-profile.later in
    let e : c.from_residual-in_err-map_err.result ≡ Err (NoMemory witness) = search rules in
    let walked = subst (λ next. IsRead old mid (Ok (so_far, next)) (Walked team)) c.in-Some.is c.loop.invariant.walked in
    rw e (read_in_vain old new _ _ (so_far ++ profile ∷ [], later) (NoMemory witness) refl
    (read_both old mid new _ _ (so_far, Some c.in-Some.first) walked (Walked team) (profile, later) (so_far ++ profile ∷ [], later)
    (walk_goes_on team so_far c.in-Some.first (profile, later)) c.in_ok-profile.ensures))
