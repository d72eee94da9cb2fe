use Rattle.std.specs.Prelude.{◌≡◌, ◌<◌, ◌^◌}
use Rattle.database_files.specs.Extents.{most_pages}
use Rattle.database_files.proofs.log.most_pages.Given as goal

abbrev pub invariant-loop-i : goal.invariant-loop-i
invariant-loop-i l = (l.most ≡ most_pages l.size l.log l.i) × (l.most < 2 ^ 32)
