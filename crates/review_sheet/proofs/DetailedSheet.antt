-- The sheet with each part, part by part.
use Rattle.std.proofs.Common.{◌≡◌, [], ◌∷◌, List, drop, take, refl}
use Rattle.std.specs.Fmt.{digits}
use Rattle.std.specs.Prelude.{Some, codes}
use Rattle.hex.specs.Hex.{encode_with}
use Rattle.cap_sets.specs.Capability.{names_from}
use Rattle.profile_text.specs.declared.sets.CapSet.TheVariants as sets
use Rattle.widening.specs.declared.finding.Finding.{Finding}
use Rattle.widening.specs.declared.finding.Finding.TheVariants.{Cap, Arch, Flag, Call, Default}
use Rattle.widening.specs.Findings.{findings_of, gained}
use Rattle.review_sheet.specs.Sets.{caps_lines}
use Rattle.review_sheet.specs.Filters.{seccomp_lines}
use Rattle.review_sheet.specs.Review.{findings_lines, votes_lines}
use Rattle.review_sheet.specs.Sheet.{head_lines, need_lines, sheet_lines}
use Rattle.review_sheet.specs.Examples.{detailed, detailed_lines}

abbrev all_found : List Finding
all_found =
    Cap sets.Effective 13
    ∷ Cap sets.Permitted 13
    ∷ Cap sets.Inheritable 0
    ∷ Cap sets.Bounding 21
    ∷ Cap sets.Ambient 10
    ∷ Arch (codes "SCMP_ARCH_AARCH64")
    ∷ Flag (codes "SECCOMP_FILTER_FLAG_SPEC_ALLOW")
    ∷ Call (codes "clone")
    ∷ Call (codes "unshare")
    ∷ Default
    ∷ []

found : findings_of detailed.base detailed.shown ≡ all_found
unfolding findings_of gained
found = refl

head : head_lines detailed ≡ take 7 detailed_lines
unfolding head_lines encode_with digits
head = refl

caps : caps_lines detailed.shown.caps ≡ take 11 (drop 7 detailed_lines)
unfolding caps_lines names_from
caps = refl

seccomp : seccomp_lines detailed.shown.filter ≡ take 12 (drop 18 detailed_lines)
unfolding seccomp_lines digits
seccomp = refl

findings : findings_lines all_found ≡ take 11 (drop 30 detailed_lines)
unfolding findings_lines digits names_from
findings = refl

need : need_lines detailed ≡ take 2 (drop 41 detailed_lines)
unfolding need_lines names_from
need = rw found refl

votes : votes_lines detailed.votes ≡ take 6 (drop 43 detailed_lines)
unfolding votes_lines digits
votes = refl

pub detailed_sheet : sheet_lines detailed ≡ detailed_lines
unfolding sheet_lines digits
detailed_sheet = rw (found, head, caps, seccomp, findings, need, votes) refl
