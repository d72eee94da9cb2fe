-- The lines of what a reviewer decides by: the findings, the need and the votes.
use Rattle.std.specs.Prelude.{ℕ, List, [], ◌∷◌, ◌++◌, Bool, true, false, not, ◌&&◌, ◌==◌}
use Rattle.std.specs.Prelude.{if◌then◌else◌, codes, decimal, length, map, count_by}
use Rattle.cap_sets.specs.Capability.{names_of, single}
use Rattle.profile_text.specs.Sets.{set_name}
use Rattle.review_policy.specs.declared.denial.Need.{Need}
use Rattle.review_policy.specs.declared.denial.Need.TheVariants.{One, TwoWithSecurity}
use Rattle.office_words.specs.Votes.{is_approval, is_rejection}
use Rattle.office_words.specs.declared.revision.VoteRow.{VoteRow}
use Rattle.widening.specs.declared.finding.Finding.{Finding}
use Rattle.widening.specs.declared.finding.Finding.TheVariants.{Cap, NoSeccomp, AnyArch, Arch, Flag}
use Rattle.widening.specs.declared.finding.Finding.TheVariants.{Call, Default}
use Rattle.review_sheet.specs.Layout.{items_text, joined}

-- ---- findings

-- the words of a finding; a capability by the name of the one member of its set
abbrev pub finding_text : Finding → List ℕ
finding_text (Cap set number) =
    codes "capability " ++ set_name set ++ codes " " ++ items_text (names_of (single number))
finding_text NoSeccomp = codes "no-seccomp"
finding_text AnyArch = codes "architecture any"
finding_text (Arch text) = codes "architecture " ++ text
finding_text (Flag text) = codes "flag " ++ text
finding_text (Call name) = codes "call " ++ name
finding_text Default = codes "default"

-- findings alone, a line each
abbrev pub findings_text : List Finding → List ℕ
findings_text found = joined (map finding_text found)

-- the line of a finding on a sheet
abbrev pub finding_line : Finding → List ℕ
finding_line finding = codes "  " ++ finding_text finding

unfoldable pub findings_lines : List Finding → List (List ℕ)
findings_lines found = (codes "findings: " ++ decimal (length found)) ∷ map finding_line found

-- ---- the need

abbrev pub need_text : Need → List ℕ
need_text One = codes "1"
need_text TwoWithSecurity = codes "2 with security"

-- ---- votes

abbrev pub vote_word : Bool → List ℕ
vote_word true = codes "approve"
vote_word false = codes "reject"

-- what follows the word of a vote: a vote that doesn't count has lapsed
abbrev pub vote_mark : VoteRow → List ℕ
vote_mark v = if v.counts then (if v.security then codes " security" else []) else codes " lapsed"

abbrev pub vote_line : VoteRow → List ℕ
vote_line v = codes "  " ++ v.voter ++ codes " " ++ vote_word v.approve ++ vote_mark v

unfoldable pub votes_lines : List VoteRow → List (List ℕ)
votes_lines votes = (codes "votes: " ++ decimal (length votes)) ∷ map vote_line votes

-- how many of the votes count, by what they say
abbrev pub tally_lines : List VoteRow → List (List ℕ)
tally_lines votes =
    (codes "approvals: " ++ decimal (count_by is_approval votes))
    ∷ (codes "rejections: " ++ decimal (count_by is_rejection votes))
    ∷ []
