use Rattle.std.proofs.Common.{subst}
use Rattle.sqlite.specs.Held.{state}
use Rattle.office_store.proofs.Calls.{leaves_only}
use Rattle.office_policy.specs.Judging.{IsJudged}
use Rattle.review_office.specs.Meant.{meaning_over}
use Rattle.review_office.proofs.Handling.{judged_is}
use Rattle.review_office.proofs.office.OfficeJudge.judge.Goals as goal

pub returns : goal.returns
returns g c =
    subst (λ old. IsJudged (meaning_over g.S.Store) old c.judge.new.conn c.args.request.now c.judgement.result) c.self.view_is
    (judged_is g.S.Store c.self.inside.conn c.judge.new.conn c.args.request.now c.request_forms.ensures.token c.request_forms.ensures.ask
    c.judge.result c.judge.ensures.judged c.judge.ensures.asked c.judge.ensures.open
    (leaves_only (state g.S.Store c.self.inside.conn) (g.met.S.Store.settled c.self.inside.conn.store)) c.judge.ensures.settled c.judgement.result c.judgement.ensures)
