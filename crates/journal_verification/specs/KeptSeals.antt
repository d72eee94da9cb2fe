-- A seal that was kept of a journal.
use Rattle.std.specs.Prelude.{◌≡◌, ◌≤◌, ℕ, List, length, take, Option, Some, None, option_map}
use Rattle.sealed_log.specs.Sealed.{seal_of}
use Rattle.journal_verification.specs.declared.verification.KeptSeal.{KeptSeal}

-- the lines are as many as the kept seal says, and the first so many of them have it
abbrev pub HaveSeal : Option KeptSeal → List (List ℕ) → Type 0
HaveSeal None bodies = Unit {0}
HaveSeal (Some kept) bodies =
    (kept.line ≤ length bodies) × (kept.seal ≡ seal_of (take kept.line bodies))

-- the line of which the seal is asked for
abbrev pub line_of : Option KeptSeal → Option ℕ
line_of kept = option_map (λ k. k.line) kept
