use Rattle.std.proofs.Common.{◌≡◌, true, take}
use Rattle.seccomp_doc.specs.Meaning.{admits_words}
use Rattle.seccomp_doc.proofs.entry.all_admit.Given as goal

abbrev pub invariant-loop-arg : goal.invariant-loop-arg
invariant-loop-arg l = admits_words (take l.arg-index l.args) l.words ≡ true
