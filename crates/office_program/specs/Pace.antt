-- When a line is written that tells how far the work is.
use Rattle.std.specs.Prelude.{◌≤◌, Option, IfSome}
use Rattle.std.specs.Duration.{as_nanos}
use Rattle.std.specs.declared.time.Duration.{Duration}

-- the work goes on for two seconds, and the last line, if there was one, stood for half a second
abbrev pub IsDue : (worked : Duration) → (since_last : Option Duration) → Type 0
IsDue worked since_last = (2_000_000_000 ≤ as_nanos worked)
    × IfSome since_last (λ since. 500_000_000 ≤ as_nanos since)
