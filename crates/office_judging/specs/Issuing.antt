-- What is looked up for an issue, by looking back.
use Rattle.std.specs.Prelude.{ℕ, List, Bool, not, nat_lt, ◌&&◌, ◌==◌, if◌then◌else◌}
use Rattle.review_policy.specs.declared.denial.Need.{Need}
use Rattle.review_policy.specs.declared.denial.Need.TheVariants.{One}
use Rattle.office_words.specs.declared.name.ProfileName.{ProfileName}
use Rattle.office_words.specs.declared.listed.Tally.{Tally}
use Rattle.office_policy.specs.History.{History}
use Rattle.office_policy.specs.Revisions.{revision_of, is_author}
use Rattle.office_policy.specs.Votes.{tally_at}
use Rattle.office_policy.specs.Holds.{is_held}
use Rattle.office_judging.specs.declared.issue.Looked.{Looked}

-- what the rules of an issue ask of a revision, its profile and the name of the caller, besides the
-- need
abbrev pub looked_at : History → ProfileName → ℕ → (name : List ℕ) → Looked
looked_at h p n name = record {
  revision = revision_of h p n;
  by_author = is_author h p name;
  tally = tally_at h p n;
  held = is_held h p;
}

-- as many approvals as a revision needs that is no wider, and these rejections
abbrev pub one_approval : (rejections : ℕ) → Tally
one_approval rejections = record { approvals = 1; secure = 0; rejections = rejections }

-- as many approvals as any revision needs, one of them with security
abbrev pub is_enough_for_any : Tally → Bool
is_enough_for_any tally = not (nat_lt tally.approvals 2) && not (tally.secure == 0)

-- a need by which the rules decide as by this one: with enough for any it doesn't matter which
abbrev pub deciding_need : Tally → Need → Need
deciding_need tally need = if is_enough_for_any tally then One else need
