use Rattle.std.proofs.Common.{◌∙◌, refl}
use Rattle.sqlite.specs.Held.{state}
use Rattle.office_policy.specs.Newest.{revisions_before}
use Rattle.office_judging.proofs.Judging.{read_as}
use Rattle.office_judging.proofs.LookedBack.{newest}
use Rattle.office_judging.proofs.Readings.{page_told}
use Rattle.office_judging.proofs.newest.newest.Goals as goal

pub returns : goal.returns
returns g c =
    let old = state g.S.Store c.args.conn.now in
    let new = state g.S.Store c.newest_below.new.conn in
    let p = c.args.name.now in
    let told = c.in_ok-found.found.items in
    read_as old new _ _ told c.page.result
    (λ t looks h lawful same. c.page.ensures ∙ page_told (revisions_before h p c.args.before) told (looks h lawful same))
    (newest old new p c.args.before c.unwrap_or.result told c.unwrap_or.ensures (λ found. found.items) c.in_ok-found.found refl c.in_ok-found.ensures.read)
