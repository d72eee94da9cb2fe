use Rattle.std.specs.Prelude.{codes}
use Rattle.json_tree.specs.View.{view}
use Rattle.profile_text.specs.Shape.{below}
use Rattle.profile_text.proofs.WalkFacts.{sets_with_ok}
use Rattle.profile_text.proofs.capabilities.sets_with.Goals as goal

pub returns-in_ok-caps-in-Some : goal.returns-in_ok-caps-in-Some
returns-in_ok-caps-in-Some c = rw (c.in-Some.is, c.with.ensures) (sets_with_ok (below (codes "/capabilities") c.args.name.now) c.in-Some.set (view c.args.value.now) c.args.sets _ c.in_ok-caps-in-Some.ensures)
