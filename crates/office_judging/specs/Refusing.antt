-- What each rule refuses, by what was looked up.
use Rattle.std.specs.Prelude.{Bool, false, not, Option, None, is_none, unwrap_or}
use Rattle.review_policy.specs.declared.act.ProfileView.TheVariants.{Fetch}
use Rattle.review_policy.specs.declared.ask.Ask.{Ask}
use Rattle.review_policy.specs.declared.ask.Ask.TheVariants as ask
use Rattle.review_policy.specs.declared.denial.Rule.{Rule}
use Rattle.review_policy.specs.declared.denial.Rule.TheVariants.{RoleMissing, OtherTeam}
use Rattle.review_policy.specs.declared.denial.Rule.TheVariants.{NoRevision, AuthorVotes, NotOpen}
use Rattle.review_policy.specs.declared.denial.Rule.TheVariants.{OtherBytes, NotStanding}
use Rattle.review_policy.specs.declared.denial.Rule.TheVariants.{AuthorAdopts, NotIssued}
use Rattle.review_policy.specs.declared.denial.Rule.TheVariants.{NothingIssued, NoProfile}
use Rattle.review_policy.specs.declared.denial.Rule.TheVariants.{AlreadyHeld, NotHeld, Held}
use Rattle.office_words.specs.declared.revision.State.{State}
use Rattle.review_policy.specs.Rules.{is_open, is_standing, is_issued}
use Rattle.office_store.specs.declared.summaries.Summary.{Summary}
use Rattle.office_words.specs.declared.row.UserRow.{UserRow}
use Rattle.office_policy.specs.Facts.{has_digest}
use Rattle.office_policy.specs.Revisions.{state_in}
use Rattle.office_judging.specs.declared.looked.Looked.{Looked}
use Rattle.office_judging.specs.Asking.{role_missing, other_team}
use Rattle.office_judging.specs.Summarized.{as_asked}

-- the state of the revision
abbrev pub state_seen : Ask → Looked → Option State
state_seen (ask.SeeRevision view p n) l = state_in (unwrap_or l.revision None)
state_seen a l = state_in (as_asked (unwrap_or l.summary None))

-- whether the digest that is named isn't that of the revision
abbrev pub other_bytes : Ask → Option Summary → Bool
other_bytes (ask.Vote p n digest approve) found = not (has_digest (as_asked found) digest)
other_bytes a found = false

-- whether no revision of the profile is issued
abbrev pub nothing_issued : Ask → Looked → Bool
nothing_issued (ask.SeeProfile Fetch p) l = is_none (unwrap_or l.issued None)
nothing_issued a l = is_none (unwrap_or l.brief None)

module _ (caller : UserRow) (a : Ask) (l : Looked) where
  abbrev pub refuses : Rule → Bool
  refuses RoleMissing = role_missing caller a
  refuses OtherTeam = other_team caller a
  refuses NoRevision = is_none (state_seen a l)
  refuses AuthorVotes = unwrap_or l.is_author false
  refuses AuthorAdopts = unwrap_or l.is_author false
  refuses NotOpen = not (is_open (state_seen a l))
  refuses NotStanding = not (is_standing (state_seen a l))
  refuses NotIssued = not (is_issued (state_seen a l))
  refuses OtherBytes = other_bytes a (unwrap_or l.summary None)
  refuses NothingIssued = nothing_issued a l
  refuses NoProfile = unwrap_or l.no_profile false
  refuses AlreadyHeld = unwrap_or l.held false
  refuses NotHeld = not (unwrap_or l.held false)
  refuses Held = unwrap_or l.held false
  refuses _ = false
