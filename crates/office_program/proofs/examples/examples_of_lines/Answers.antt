use Rattle.std.proofs.Common.{refl}
use Rattle.std.specs.Fmt.{digits}
use Rattle.office_program.proofs.examples.examples_of_lines.Goals as goal

pub returns-clause-halfway : goal.returns-clause-halfway
unfolding digits
returns-clause-halfway c = refl

pub returns-clause-begun : goal.returns-clause-begun
unfolding digits
returns-clause-begun c = refl

pub returns-clause-grown : goal.returns-clause-grown
unfolding digits
returns-clause-grown c = refl
