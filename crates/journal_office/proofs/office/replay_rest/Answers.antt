use Rattle.std.proofs.Common.{arith, refl, ◌∷◌, [], None, Ok, Err, Result, IfOk, inl, sym, subst}
use Rattle.std.specs.Prelude.{⊤}
use Rattle.review_office.specs.Meant.{meaning_over}
use Rattle.journal.specs.Told.{place}
use Rattle.journal_faults.specs.declared.refused.Refused.{Refused}
use Rattle.journal_office.specs.Steps.{HasBegun}
use Rattle.journal_office.proofs.Refusals.{begun_on}
use Rattle.journal_office.proofs.office.replay_rest.Goals as goal

where_ok : (result : Result ⊤ Refused) (P : Type 0) → P → IfOk result (λ _. P)
where_ok (Ok done) P holds = holds
where_ok (Err refused) P holds = tt

pub returns-in-Some-clause-replayed : goal.returns-in-Some-clause-replayed
returns-in-Some-clause-replayed g c = λ bytes first begun one.
    let here = place g.R.Read.remaining c.args.replay.now.events in
    inl (first, subst (HasBegun (meaning_over g.S.Store) bytes c.args.replay.now.office here first) c.in-Some.is begun)

pub visit-requires-clause-fault : goal.visit-requires-clause-fault
visit-requires-clause-fault g c = c.requires c.in_default.is

pub visit-requires-clause-begun : goal.visit-requires-clause-begun
visit-requires-clause-begun g c = record {
  replayed = λ bytes first begun one.
      let here = place g.R.Read.remaining c.args.replay.now.events in
      (first ∷ [], begun_on (meaning_over g.S.Store) bytes here first None c.args.replay.now.office refl begun, sym one, omega arith);
  seen = λ bytes seen. seen;
  line = refl;
  clean = λ clean. clean;
}

pub returns-clause-replayed : goal.returns-clause-replayed
returns-clause-replayed g c = λ bytes first begun one.
    let here = place g.R.Read.remaining c.args.replay.now.events in
    c.visit.ensures.replayed bytes first (subst (HasBegun (meaning_over g.S.Store) bytes c.args.replay.now.office here first) c.in_default.is begun) one

pub returns-clause-read : goal.returns-clause-read
returns-clause-read g c = where_ok c.visit.result _ c.in_default.is

pub returns-clause-seen : goal.returns-clause-seen
returns-clause-seen g c = λ bytes seen. c.visit.ensures.seen bytes seen

pub returns-clause-line : goal.returns-clause-line
returns-clause-line g c = c.visit.ensures.line

pub returns-clause-clean : goal.returns-clause-clean
returns-clause-clean g c = c.visit.ensures.clean
