use Rattle.std.proofs.Common.{◌∙◌, sym, subst}
use Rattle.review_office.specs.Meant.{meaning_over}
use Rattle.journal_office.proofs.Refusals.{unbegun_refused}
use Rattle.journal_reports.specs.Evidence.{IsEvidence, IsNoEvidence}
use Rattle.journal_reports.proofs.Searching.{none_found}
use Rattle.journal_reports.proofs.sheet_before.evidence.Goals as goal

pub returns-in-Err-clause-none : goal.returns-in-Err-clause-none
returns-in-Err-clause-none g c =
    unbegun_refused g.S.Store (g.R.Read.remaining c.args.journal) c.args.conn c.in-Err.conn c.in-Err.refused.line c.in-Err.refused.why c.in-Err.ensures.unbegun

pub returns-in-Ok-found-clause-evidence : goal.returns-in-Ok-found-clause-evidence
returns-in-Ok-found-clause-evidence g c =
    let bytes = g.R.Read.remaining c.args.journal in
    subst (λ left. IsEvidence bytes c.args.name.now c.args.number c.args.line (meaning_over g.S.Store) left c.in-Ok-found.text) (sym (c.into_connection-conn.ensures.connection ∙ c.into_office.ensures))
    (c.in-Ok-found.ensures bytes c.in-Ok.ensures.begun)

pub returns-in-Err-found-clause-none : goal.returns-in-Err-found-clause-none
returns-in-Err-found-clause-none g c =
    let bytes = g.R.Read.remaining c.args.journal in
    subst (λ left. IsNoEvidence bytes c.args.name.now c.args.number c.args.line g.S.Store c.args.conn left c.in-Err-found.why) (sym (c.into_connection-conn.ensures.connection ∙ c.into_office.ensures))
    (none_found g.S.Store bytes c.args.name.now c.args.number c.args.line c.args.conn _ c.in-Err-found.why
    (c.in-Err-found.ensures bytes c.in-Ok.ensures.begun))
