-- The text of a review sheet.
use Rattle.std.specs.Prelude.{ℕ, List, [], ◌∷◌, ◌++◌, Option, Some, None, codes, decimal}
use Rattle.hex.specs.Hex.{encode_lower}
use Rattle.review_policy.specs.declared.denial.Need.{Need}
use Rattle.review_policy.specs.Rules.{need_of}
use Rattle.office_words.specs.WordTables.{state_word}
use Rattle.widening.specs.Findings.{findings_of, is_wider}
use Rattle.review_sheet.specs.Facts.{SheetValue}
use Rattle.review_sheet.specs.Layout.{joined}
use Rattle.review_sheet.specs.Sets.{caps_lines, set_line}
use Rattle.review_sheet.specs.Filters.{seccomp_lines}
use Rattle.profile_text.specs.Profile.{holds_listed, listed_in}
use Rattle.review_sheet.specs.Review.{findings_lines, need_text, votes_lines, tally_lines}

-- the adopted revision by its profile and number, or that there is none
abbrev pub baseline_text : Option (List ℕ × ℕ) → List ℕ
baseline_text None = codes "closed"
baseline_text (Some (profile, number)) = profile ++ codes " " ++ decimal number

-- which revision it is, where it stands, and what it is compared with
unfoldable pub head_lines : SheetValue → List (List ℕ)
head_lines s =
    codes "REVIEW SHEET"
    ∷ (codes "team: " ++ s.team)
    ∷ (codes "profile: " ++ s.profile)
    ∷ (codes "revision: " ++ decimal s.number)
    ∷ (codes "state: " ++ state_word s.state)
    ∷ (codes "digest: " ++ encode_lower s.digest)
    ∷ (codes "baseline: " ++ baseline_text s.baseline)
    ∷ []

-- how many approvals the revision needs
abbrev pub need_at : SheetValue → Need
need_at s = need_of (is_wider s.base s.shown) (holds_listed s.listed s.shown)

-- the listed capabilities that the document holds, and the need
unfoldable pub need_lines : SheetValue → List (List ℕ)
need_lines s =
    set_line (codes "listed") (listed_in s.listed s.shown)
    ∷ (codes "need: " ++ need_text (need_at s))
    ∷ []

-- the lines of a sheet
unfoldable pub sheet_lines : SheetValue → List (List ℕ)
sheet_lines s =
    head_lines s
    ++ caps_lines s.shown.caps
    ++ seccomp_lines s.shown.filter
    ++ findings_lines (findings_of s.base s.shown)
    ++ need_lines s
    ++ votes_lines s.votes
    ++ tally_lines s.votes

-- the text of a review sheet: the lines, each ended by a line feed
unfoldable pub sheet_text : SheetValue → List ℕ
sheet_text s = joined (sheet_lines s)
