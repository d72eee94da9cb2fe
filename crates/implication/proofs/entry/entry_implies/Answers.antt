use Rattle.std.proofs.Common.{◌≡◌, ◌∙◌, sym, rules}
use Rattle.implication.specs.Implication.{entry_implies}
use Rattle.implication.proofs.Implied.{entry_implies-admits}
use Rattle.implication.proofs.entry.entry_implies.Goals as goal

pub returns-clause-sound : goal.returns-clause-sound
returns-clause-sound c =
    let value : c.all_implied.result ≡ entry_implies c.args.entry.now c.args.other.now = search rules in
    λ implied. entry_implies-admits c.args.entry.now c.args.other.now (sym value ∙ implied)
