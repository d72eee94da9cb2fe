use Rattle.std.proofs.Common.{inl, inr, refl, subst, arith, ℕ, IfSome, Option}
use Rattle.sqlite.specs.Held.{state}
use Rattle.office_policy.specs.TablesOf.{tables_of}
use Rattle.sealed_log.specs.Told.{told}
use Rattle.journal.specs.SealsAt.{IsSealAsked}
use Rattle.journal_verification.specs.Compared.{Differs}
use Rattle.journal_verification.proofs.Looks.{looked_itself}
use Rattle.journal_verification.proofs.Verifying.{ahead, not_rebuilt, other, other_seal, same_seal, still_shows, verified}
use Rattle.journal_verification.proofs.verification.verify_over.Goals as goal

pub returns-in-Ok-None-clause-verified : goal.returns-in-Ok-None-clause-verified
returns-in-Ok-None-clause-verified g c clean =
    let bytes = g.R.Read.remaining c.args.journal in
    let anew = c.in-Ok.rebuilt in
    let rebuilt = c.in-Ok.ensures.rebuilt in
    let t = tables_of rebuilt.history in
    let shows = still_shows bytes g.S.Store c.requires.clean anew.office anew.events anew.seal anew.lines rebuilt c.into_connection-built.result c.into_connection-built.ensures.connection in
    verified bytes g.S.Store c.requires.clean anew.office anew.events anew.seal anew.lines rebuilt g.T.Store c.compare.new.office c.compare.ensures.office.idle (g.met.T.Store.settled c.compare.new.office.store)
    (rw c.in-Ok-None.field-0-is at (c.in-Ok-None.ensures.told t shows (c.requires.clean c.compare.new.built) clean)) c.args.kept
    (same_seal bytes c.args.kept anew.at c.is_kept.result (subst (λ (n : Option ℕ). IfSome bytes (λ text. IsSealAsked n (told text) anew.at)) c.line_of.ensures c.in-Ok.ensures.at) c.is_kept.ensures c.if-not-is_kept.false)
    c.args.mark (let few = c.if-lines-mark.false in omega (arith, few))

pub returns-in-Ok-Some-clause-unverified : goal.returns-in-Ok-Some-clause-unverified
returns-in-Ok-Some-clause-unverified g c clean =
    let bytes = g.R.Read.remaining c.args.journal in
    let anew = c.in-Ok.rebuilt in
    let rebuilt = c.in-Ok.ensures.rebuilt in
    let t = tables_of rebuilt.history in
    let shows = still_shows bytes g.S.Store c.requires.clean anew.office anew.events anew.seal anew.lines rebuilt c.into_connection-built.result c.into_connection-built.ensures.connection in
    inl (other bytes g.S.Store c.requires.clean anew.office anew.events anew.seal anew.lines rebuilt g.T.Store c.args.office.now c.in-Ok-Some.difference
    (subst (λ b. Differs g.S.Store g.T.Store b c.args.office.now c.in-Ok-Some.difference) c.into_connection-built.ensures.connection
    (rw c.in-Ok-Some.field-0-is at (c.in-Ok-Some.ensures.told t shows (c.requires.clean c.compare.new.built) clean))))

pub returns-clause-unverified : goal.returns-clause-unverified
returns-clause-unverified g c clean =
    not_rebuilt (g.R.Read.remaining c.args.journal) g.S.Store c.requires.clean c.args.conn c.in-Err.field-0-1 c.in-Err.refused c.requires.new c.requires.empty
    c.in-Err.ensures.rebuilt c.in-Err.ensures.unlawful

pub returns-in-Ok-clause-unverified : goal.returns-in-Ok-clause-unverified
returns-in-Ok-clause-unverified g c clean =
    let anew = c.in-Ok.rebuilt in
    let rebuilt = c.in-Ok.ensures.rebuilt in
    let conn = c.into_connection-built.result in
    let shows = still_shows (g.R.Read.remaining c.args.journal) g.S.Store c.requires.clean anew.office anew.events anew.seal anew.lines rebuilt conn c.into_connection-built.ensures.connection in
    let t = tables_of rebuilt.history in
    c.in-Err-compare.ensures.cause t shows clean

pub returns-clause-looked : goal.returns-clause-looked
returns-clause-looked g c = looked_itself (state g.T.Store c.args.office.now) c.requires.idle

pub returns-then-lines-mark-clause-unverified : goal.returns-then-lines-mark-clause-unverified
returns-then-lines-mark-clause-unverified g c clean =
    let bytes = g.R.Read.remaining c.args.journal in
    let anew = c.in-Ok.rebuilt in
    let rebuilt = c.in-Ok.ensures.rebuilt in
    let t = tables_of rebuilt.history in
    let shows = still_shows bytes g.S.Store c.requires.clean anew.office anew.events anew.seal anew.lines rebuilt c.into_connection-built.result c.into_connection-built.ensures.connection in
    inr (
      refl,
      ahead bytes g.S.Store c.requires.clean anew.office anew.events anew.seal anew.lines rebuilt g.T.Store c.compare.new.office
          (rw c.in-Ok-None.field-0-is at (c.in-Ok-None.ensures.told t shows (c.requires.clean c.compare.new.built) clean)) c.args.mark c.if-lines-mark.true,
    )

pub returns-then-not-is_kept-clause-unverified : goal.returns-then-not-is_kept-clause-unverified
returns-then-not-is_kept-clause-unverified g c clean =
    let bytes = g.R.Read.remaining c.args.journal in
    let anew = c.in-Ok.rebuilt in
    other_seal bytes g.S.Store c.requires.clean anew.office anew.events anew.seal anew.lines c.in-Ok.ensures.rebuilt c.args.kept anew.at c.is_kept.result
    (subst (λ (n : Option ℕ). IfSome bytes (λ text. IsSealAsked n (told text) anew.at)) c.line_of.ensures c.in-Ok.ensures.at) c.is_kept.ensures c.if-not-is_kept.true
