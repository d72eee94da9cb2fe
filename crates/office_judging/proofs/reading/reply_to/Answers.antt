use Rattle.std.proofs.Common.{rules, ◌≡◌, ◌∙◌, Some, ap}
use Rattle.sqlite.specs.Held.{state}
use Rattle.review_policy.specs.declared.answer.Reply.TheVariants.{Fetched, IssuedNow}
use Rattle.review_policy.specs.declared.ask.Ask.TheVariants as ask
use Rattle.office_judging.proofs.Replies.{fetches, tells_issued}
use Rattle.office_judging.proofs.Unread.{found_unread}
use Rattle.office_judging.proofs.reading.reply_to.Goals as goal

pub returns-in-Fetch : goal.returns-in-Fetch
returns-in-Fetch g c =
    let r = c.in-Some-Some-issued.row in
    let p = c.in-SeeProfile.name in
    found_unread (state g.S.Store c.args.conn.now) (Fetched r.digest r.body r.number) _ c.requires.idle c.requires.is_open (g.met.S.Store.settled c.args.conn.now.store)
    (λ t. fetches c.args.ask.now c.args.looked t p (c.in-SeeProfile.is ∙ ap (λ view. ask.SeeProfile view p) c.in-Fetch.is) r (c.in-Some-Some-issued.is ∙ ap Some c.in-Some-Some-issued.field-0-is))

pub returns-in-SeeProfile : goal.returns-in-SeeProfile
returns-in-SeeProfile g c =
    let b = c.in-Some-Some-brief.brief in
    let p = c.in-SeeProfile.name in
    let there : c.args.looked.brief ≡ Some (Some b) = search rules in
    found_unread (state g.S.Store c.args.conn.now) (IssuedNow b.digest b.number) _ c.requires.idle c.requires.is_open (g.met.S.Store.settled c.args.conn.now.store)
    (λ t. tells_issued c.args.ask.now c.args.looked t p (c.in-SeeProfile.is ∙ ap (λ view. ask.SeeProfile view p) c.in-Issued.is) b there)
