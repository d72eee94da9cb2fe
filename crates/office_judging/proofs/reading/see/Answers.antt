use Rattle.std.proofs.Common.{ap, sym}
use Rattle.sqlite.specs.Held.{state}
use Rattle.review_policy.specs.declared.answer.Reply.TheVariants.{Shown}
use Rattle.office_policy.specs.Verdict.{seen_of}
use Rattle.office_judging.proofs.Unread.{found_unread}
use Rattle.office_judging.proofs.reading.see.Goals as goal

pub returns-in-Show : goal.returns-in-Show
returns-in-Show g c =
    let r = c.args.row in
    found_unread (state g.S.Store c.args.conn.now) (Shown r.digest r.body r.state) _ c.requires.idle c.requires.is_open (g.met.S.Store.settled c.args.conn.now.store)
    (λ t h lawful same. ap (λ view. seen_of h c.args.name.now view r) (sym c.in-Show.is))
