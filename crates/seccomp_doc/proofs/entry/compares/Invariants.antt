use Rattle.std.proofs.Common.{◌≡◌, All, map, take}
use Rattle.seccomp_doc.specs.Lawful.{IsLawfulCompare}
use Rattle.seccomp_doc.specs.Parts.{compare_of}
use Rattle.seccomp_doc.proofs.entry.compares.Given as goal

abbrev pub invariant-loop-arg : goal.invariant-loop-arg
invariant-loop-arg l = (l.args.items ≡ map compare_of (take l.arg-index l.parts)) × All IsLawfulCompare l.args.items
