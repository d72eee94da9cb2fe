use Rattle.std.proofs.Common.{Ok, rules, refl, ap, ◌∙◌}
use Rattle.sqlite.specs.Held.{state}
use Rattle.office_words.specs.Lists.{tally_of}
use Rattle.office_store.proofs.ToldLists.{tally_told, tallies_failed}
use Rattle.office_store.proofs.Calls.{read_failed, read_made}
use Rattle.office_store.proofs.standing_votes.tally.Goals as goal

pub returns-in_err-votes-clause-read : goal.returns-in_err-votes-clause-read
returns-in_err-votes-clause-read g c =
    read_failed (state g.S.Store c.args.conn.now) (state g.S.Store c.standing.new.conn) _ _ c.standing.result c.standing.ensures.read _ _ c.in_err-votes.was (search rules)

pub returns-clause-read : goal.returns-clause-read
returns-clause-read g c =
    read_made (state g.S.Store c.args.conn.now) (state g.S.Store c.standing.new.conn) _ _ _ c.in_ok-votes.ensures.read _ _ refl
    (λ t shows standing. (record { rows = c.in_ok-votes.votes.items; standing = standing; counted = c.count.ensures ∙ ap tally_of c.as_slice.ensures.value }, tt))

pub returns-in_err-votes-clause-told : goal.returns-in_err-votes-clause-told
returns-in_err-votes-clause-told g c clean =
    let it = c.standing.ensures.told clean in
    record { rows = it.rows; found = it.found; told = tally_told it.rows _ _ it.told (tallies_failed (λ votes. votes.items) c.standing.result _ _ c.in_err-votes.was (search rules)) }

pub returns-clause-told : goal.returns-clause-told
returns-clause-told g c clean =
    let it = c.in_ok-votes.ensures.told clean in
    record { rows = it.rows; found = it.found; told = tally_told it.rows _ (Ok c.count.result) it.told (c.count.ensures ∙ ap tally_of c.as_slice.ensures.value) }
