use Rattle.std.proofs.Common.{◌∙◌, ap}
use Rattle.sqlite.specs.Held.{state}
use Rattle.review_policy.specs.declared.act.RevisionAct.TheVariants.{Issue}
use Rattle.review_policy.specs.declared.ask.Ask.TheVariants as ask
use Rattle.office_judging.proofs.Verdicts.{changes}
use Rattle.office_judging.proofs.judge.judge_for.Goals as goal

pub returns-in-Issue-clause-judged : goal.returns-in-Issue-clause-judged
returns-in-Issue-clause-judged g c =
    changes (state g.S.Store c.args.conn.now) (state g.S.Store c.judge_issue.new.conn) c.args.caller (ask.ActOnRevision Issue c.in-ActOnRevision.name c.in-ActOnRevision.revision) c.args.ask.now
    (c.in-ActOnRevision.is ∙ ap (λ act. ask.ActOnRevision act c.in-ActOnRevision.name c.in-ActOnRevision.revision) c.in-Issue.is)
    c.judge_issue.result c.judge_issue.ensures.judged c.judge_issue.ensures.asked c.allowed-in-Issue.result c.allowed-in-Issue.ensures
