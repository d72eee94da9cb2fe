use Rattle.std.proofs.Common.{rules, refl, sym, subst, ◌∙◌}
use Rattle.std.proofs.lemmas.Result.{IfOk-weaker}
use Rattle.sqlite.specs.Held.{state}
use Rattle.office_rows.specs.Told.{map_ok}
use Rattle.office_store.proofs.ToldLists.{same_standings, all_failed, all_told, tells_votes}
use Rattle.office_store.proofs.Told.{only_memory}
use Rattle.office_store.proofs.Calls.{read_failed, read_made}
use Rattle.office_words.specs.Lists.{AreStanding}
use Rattle.office_store.specs.Lists.{AreCastAs, TellsVotes}
use Rattle.office_store.proofs.standing_votes.standing.Goals as goal

pub returns-in_err-rows-clause-read : goal.returns-in_err-rows-clause-read
returns-in_err-rows-clause-read g c =
    read_failed (state g.S.Store c.args.conn.now) (state g.S.Store c.vote_rows.new.conn) _ _ c.vote_rows.result c.vote_rows.ensures.read _ _ c.in_err-rows.was (search rules)

pub returns-clause-read : goal.returns-clause-read
returns-clause-read g c =
    read_made (state g.S.Store c.args.conn.now) (state g.S.Store c.vote_rows.new.conn) _ _ _ c.in_ok-rows.ensures.read c.read_votes.result _ refl
    (λ t shows it.
    let are = c.as_slice.ensures.value ∙ it.rows_are in (
      IfOk-weaker c.read_votes.result (λ read. AreCastAs c.as_slice.result.now read.items) (λ read. AreStanding t c.args.profile.now c.args.number read.items)
          (λ read told. subst (AreStanding t c.args.profile.now c.args.number) (sym (told.stand ∙ same_standings told.cast it.cast (sym told.rows_are ∙ are))) it.standing) c.read_votes.ensures.read,
      only_memory c.read_votes.result (c.read_votes.ensures.formed it.cast are it.formed) c.read_votes.ensures.cause,
    ))

pub returns-in_err-rows-clause-told : goal.returns-in_err-rows-clause-told
returns-in_err-rows-clause-told g c clean = record {
  rows = map_ok c.vote_rows.result (λ rows. rows.items);
  found = c.vote_rows.ensures.rows clean;
  told = all_failed TellsVotes (λ rows. rows.items) (λ votes. votes.items) c.vote_rows.result _ _ c.in_err-rows.was (search rules);
}

pub returns-clause-told : goal.returns-clause-told
returns-clause-told g c clean = record {
  rows = map_ok c.vote_rows.result (λ rows. rows.items);
  found = c.vote_rows.ensures.rows clean;
  told = all_told TellsVotes (λ rows. rows.items) (λ votes. votes.items) c.vote_rows.result _ c.in_ok-rows.was _ c.as_slice.ensures.value c.read_votes.result
      (tells_votes (λ votes. votes.items) _ c.read_votes.result c.read_votes.ensures.read c.read_votes.ensures.formed c.read_votes.ensures.cause);
}
