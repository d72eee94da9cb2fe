-- The forms of lines.
use Rattle.std.specs.Prelude.{◌<◌, ◌^◌}
use Rattle.office_policy.specs.EventForms.{HasForms, HasNumber}
use Rattle.journal.specs.Lines.{Line, happened, strike, done}

-- a line that can be written
abbrev pub IsFormed : Line → Type 0
IsFormed (happened e) = HasForms e
IsFormed strike = Unit {0}
IsFormed (done n) = n < 2 ^ 64

-- the revision that a line's event names, where one is, has a number from 1 to 9,999
abbrev pub IsNumbered : Line → Type 0
IsNumbered (happened e) = HasNumber e
IsNumbered strike = Unit {0}
IsNumbered (done n) = Unit {0}
