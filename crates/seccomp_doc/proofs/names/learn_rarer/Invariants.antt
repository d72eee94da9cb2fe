use Rattle.std.proofs.Common.{not, take}
use Rattle.std.specs.Prelude.{filter}
use Rattle.seccomp_doc.specs.Names.{Knows, has_action}
use Rattle.seccomp_doc.proofs.names.learn_rarer.Given as goal

abbrev pub invariant-loop-entry : goal.invariant-loop-entry
invariant-loop-entry l = Knows (filter (λ e. not (has_action l.fn.common e)) (take l.entry-index l.entries)) l.rarer
