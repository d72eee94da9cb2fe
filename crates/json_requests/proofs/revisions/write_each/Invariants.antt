use Rattle.std.proofs.Common.{drop}
use Rattle.json_tree.proofs.Writing.{Leaves}
use Rattle.json_requests.specs.Answers.{revision_data}
use Rattle.json_requests.proofs.revisions.write_each.Given as goal

abbrev pub invariant-loop-revision : goal.invariant-loop-revision
invariant-loop-revision l = Leaves revision_data l.revisions (drop l.revision-index l.revisions) l.initial.out l.out
