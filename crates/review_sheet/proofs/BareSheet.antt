-- The sheet of a profile without capabilities and without a filter, part by part.
use Rattle.std.proofs.Common.{◌≡◌, [], ◌∷◌, drop, take, refl}
use Rattle.std.specs.Fmt.{digits}
use Rattle.hex.specs.Hex.{encode_with}
use Rattle.cap_sets.specs.Capability.{names_from}
use Rattle.widening.specs.declared.finding.Finding.TheVariants.{NoSeccomp}
use Rattle.widening.specs.Findings.{findings_of, gained}
use Rattle.review_sheet.specs.Sets.{caps_lines}
use Rattle.review_sheet.specs.Filters.{seccomp_lines}
use Rattle.review_sheet.specs.Review.{findings_lines, votes_lines}
use Rattle.review_sheet.specs.Sheet.{head_lines, need_lines, sheet_lines}
use Rattle.review_sheet.specs.Examples.{bare, bare_lines}

found : findings_of bare.base bare.shown ≡ NoSeccomp ∷ []
unfolding findings_of gained
found = refl

head : head_lines bare ≡ take 7 bare_lines
unfolding head_lines encode_with digits
head = refl

caps : caps_lines bare.shown.caps ≡ take 11 (drop 7 bare_lines)
unfolding caps_lines names_from
caps = refl

seccomp : seccomp_lines bare.shown.filter ≡ take 1 (drop 18 bare_lines)
unfolding seccomp_lines
seccomp = refl

findings : findings_lines (NoSeccomp ∷ []) ≡ take 2 (drop 19 bare_lines)
unfolding findings_lines digits
findings = refl

need : need_lines bare ≡ take 2 (drop 21 bare_lines)
unfolding need_lines names_from
need = rw found refl

votes : votes_lines bare.votes ≡ take 3 (drop 23 bare_lines)
unfolding votes_lines digits
votes = refl

pub bare_sheet : sheet_lines bare ≡ bare_lines
unfolding sheet_lines digits
bare_sheet = rw (found, head, caps, seccomp, findings, need, votes) refl
