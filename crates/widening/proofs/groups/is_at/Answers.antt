use Rattle.std.proofs.Common.{◌∙◌, sym}
use Rattle.std.proofs.lemmas.Bool.{OnTrue_from}
use Rattle.widening.proofs.GroupFacts.{named_here}
use Rattle.widening.proofs.groups.is_at.Goals as goal

pub returns-then-at-names : goal.returns-then-at-names
returns-then-at-names c =
    OnTrue_from c.eq.result _ (λ told. named_here c.args.names.now c.args.name.now c.args.at _ c.if-at-names.true (sym c.eq.ensures ∙ told))
