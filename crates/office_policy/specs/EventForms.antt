-- The forms of what happens: those of the requests that it was, and a text is UTF-8.
use Rattle.std.specs.Prelude.{◌<◌, ◌^◌, IsUtf8}
use Rattle.office_policy.specs.History.{Event, founded, enrolled, submitted, voted}
use Rattle.office_policy.specs.History.{on_revision, on_profile}
use Rattle.office_policy.specs.Formed.{IsWord, IsDigest, IsRoles, IsName, IsNumber}

abbrev pub HasForms : Event → Type 0
HasForms (founded name team digest listed) =
    IsWord name × IsWord team × IsDigest digest × (listed < 2 ^ 41)
HasForms (enrolled caller name team roles digest) =
    IsWord caller × IsWord name × IsWord team × IsRoles roles × IsDigest digest
HasForms (submitted caller p text) = IsWord caller × IsName p × IsUtf8 text
HasForms (voted caller p n digest approves) =
    IsWord caller × IsName p × IsNumber n × IsDigest digest
HasForms (on_revision caller act p n) = IsWord caller × IsName p × IsNumber n
HasForms (on_profile caller act p) = IsWord caller × IsName p

-- the revision that is named, where one is, has a number from 1 to 9,999
abbrev pub HasNumber : Event → Type 0
HasNumber (voted caller p n digest approves) = IsNumber n
HasNumber (on_revision caller act p n) = IsNumber n
HasNumber _ = Unit {0}
