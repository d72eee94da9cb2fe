-- What a review sheet shows of a revision, as plain values.
use Rattle.std.specs.Prelude.{ℕ, List, Option}
use Rattle.profile_text.specs.declared.profile.Profile.{Profile}
use Rattle.office_words.specs.declared.revision.State.{State}
use Rattle.office_words.specs.declared.revision.VoteRow.{VoteRow}

-- the revision, by its team, its profile and its number; where it stands; the digest of its text;
-- what it is compared with: the adopted revision, by its profile and number, or none, and the
-- document of that, or the closed profile; its own document; the capabilities that are listed at
-- the founding; its standing votes
pub record SheetValue : Type 0 where
  pub team : List ℕ
  pub profile : List ℕ
  pub number : ℕ
  pub state : State
  pub digest : List ℕ
  pub baseline : Option (List ℕ × ℕ)
  pub base : Profile
  pub shown : Profile
  pub listed : ℕ
  pub votes : List VoteRow
