-- How many approvals a revision needs.
use Rattle.std.specs.Prelude.{ℕ, List, Option, Some, None}
use Rattle.profile_text.specs.declared.profile.Profile.{Profile}
use Rattle.office_words.specs.declared.name.ProfileName.{ProfileName}
use Rattle.review_policy.specs.declared.denial.Need.{Need}
use Rattle.review_policy.specs.declared.denial.Need.TheVariants.{One}
use Rattle.review_policy.specs.Rules.{need_of}
use Rattle.office_words.specs.declared.row.RevisionRow.{RevisionRow}
use Rattle.widening.specs.Findings.{is_wider}
use Rattle.profile_text.specs.Profile.{holds_listed}
use Rattle.office_policy.specs.History.{History}
use Rattle.office_policy.specs.Revisions.{revision_of}
use Rattle.office_policy.specs.Documents.{document_of}
use Rattle.office_policy.specs.Baseline.{baseline_of, listed_of}

-- two approvals, one with security, for a document that is wider than the baseline or holds a
-- listed capability in any set
abbrev pub need_against : (listed : ℕ) → (base document : Profile) → Need
need_against listed base document = need_of (is_wider base document) (holds_listed listed document)

-- the need of a revision of a team, against the baseline of this moment
abbrev pub need_of_row : History → (team : List ℕ) → Option RevisionRow → Need
need_of_row h team None = One
need_of_row h team (Some r) = need_against (listed_of h) (baseline_of h team) (document_of r.body)

abbrev pub need_at : History → ProfileName → ℕ → Need
need_at h p n = need_of_row h p.team (revision_of h p n)
