use Rattle.std.proofs.Common.{◌∙◌, sym}
use Rattle.widening.proofs.RankFacts.{named_with}
use Rattle.widening.proofs.calls.with_named.Goals as goal

pub returns-then-has_name : goal.returns-then-has_name
returns-then-has_name c = named_with c.args.ranks _ c.args.name.now c.args.entry.now (sym c.has_name.ensures ∙ c.if-has_name.true) c.with.ensures
