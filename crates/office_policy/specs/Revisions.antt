-- Revisions of a profile: its submissions, numbered from 1.
use Rattle.std.specs.Prelude.{ℕ, suc, List, [], ◌∷◌, Bool, false, ◌&&◌, ◌||◌, ◌==◌, nat_lt}
use Rattle.std.specs.Prelude.{if◌then◌else◌, Option, Some, None, option_map, option_and_then}
use Rattle.std.specs.Prelude.{filter, length, bytes_eq}
use Rattle.std.specs.List.{list_any}
use Rattle.profile_text.specs.Digest.{digest_of}
use Rattle.review_policy.specs.declared.act.Effect.TheVariants.{Issues, Withdraws}
use Rattle.office_words.specs.declared.name.ProfileName.{ProfileName}
use Rattle.office_words.specs.declared.revision.State.{State}
use Rattle.office_words.specs.declared.revision.State.TheVariants.{Open, Closed, Issued, Replaced}
use Rattle.office_words.specs.declared.revision.State.TheVariants.{Withdrawn}
use Rattle.review_policy.specs.Acts.{has_effect}
use Rattle.review_policy.specs.Rules.{is_open, is_issued}
use Rattle.office_words.specs.declared.row.RevisionRow.{RevisionRow}
use Rattle.office_words.specs.Tables.{is_profile}
use Rattle.office_policy.specs.History.{Event, submitted, on_revision, History}

-- whether an event hands in a revision of the profile
abbrev pub submits : ProfileName → Event → Bool
submits p (submitted c q t) = is_profile p q
submits p _ = false

-- whether an event issues a revision of the profile
abbrev pub issues_profile : ProfileName → Event → Bool
issues_profile p (on_revision c act q n) = has_effect act Issues && is_profile p q
issues_profile p _ = false

-- whether an event issues this revision
abbrev pub issues : ProfileName → ℕ → Event → Bool
issues p n (on_revision c act q m) = has_effect act Issues && is_profile p q && (n == m)
issues p n _ = false

-- whether an event withdraws this revision
abbrev pub withdraws : ProfileName → ℕ → Event → Bool
withdraws p n (on_revision c act q m) = has_effect act Withdraws && is_profile p q && (n == m)
withdraws p n _ = false

-- how many revisions a profile has
abbrev pub revision_count : History → ProfileName → ℕ
revision_count h p = length (filter (submits p) h)

-- who handed a revision in, and its text
pub record Submission : Type 0 where
  pub author : List ℕ
  pub text : List ℕ

-- the n-th submission of a profile
abbrev pub submission_of : History → ProfileName → ℕ → Option Submission
submission_of [] p n = None
submission_of (submitted c q t ∷ before) p n =
    if is_profile p q && (n == suc (revision_count before p))
    then Some (record { author = c; text = t })
    else submission_of before p n
submission_of (_ ∷ before) p n = submission_of before p n

-- whether some issue of the revision was followed by an issue of its profile
abbrev pub is_replaced : History → ProfileName → ℕ → Bool
is_replaced [] p n = false
is_replaced (e ∷ before) p n =
    (issues_profile p e && list_any (issues p n) before) || is_replaced before p n

-- Withdrawn where a withdrawal names the revision; else Replaced where it was issued and a later
-- issue names its profile; else Issued where it was issued; else Closed where a later submission
-- names its profile; else Open
abbrev pub state_of : History → ProfileName → ℕ → State
state_of h p n =
    if list_any (withdraws p n) h then Withdrawn
    else if list_any (issues p n) h then (if is_replaced h p n then Replaced else Issued)
    else if nat_lt n (revision_count h p) then Closed
    else Open

-- a revision with its state
abbrev pub revision_of : History → ProfileName → ℕ → Option RevisionRow
revision_of h p n =
    option_map
    (λ s. record {
      number = n;
      author = s.author;
      state = state_of h p n;
      body = s.text;
      digest = digest_of s.text;
    })
    (submission_of h p n)

-- the last revision of a profile
abbrev pub last_revision : History → ProfileName → Option RevisionRow
last_revision h p = revision_of h p (revision_count h p)

-- whether an event is a submission of the profile by this name
abbrev pub is_submission_by : List ℕ → ProfileName → Event → Bool
is_submission_by name p (submitted c q t) = is_profile p q && bytes_eq name c
is_submission_by name p _ = false

-- whether a name is an author of the profile: it submitted any revision of it
abbrev pub is_author : History → ProfileName → List ℕ → Bool
is_author h p name = list_any (is_submission_by name p) h

-- the state of a revision that is there
abbrev pub state_in : Option RevisionRow → Option State
state_in r = option_map (λ row. row.state) r

-- a revision where it is open; the open revision of a profile is its last one, where that is open
abbrev pub if_open : Option RevisionRow → Option RevisionRow
if_open r = if is_open (state_in r) then r else None

-- the number of a revision, or 0
abbrev pub number_of : Option RevisionRow → ℕ
number_of None = 0
number_of (Some r) = r.number

-- the number that the newest issue of a profile names
abbrev pub last_issue : History → ProfileName → Option ℕ
last_issue [] p = None
last_issue (on_revision c act q n ∷ before) p =
    if has_effect act Issues && is_profile p q then Some n else last_issue before p
last_issue (_ ∷ before) p = last_issue before p

-- a revision where it is issued
abbrev pub if_issued : Option RevisionRow → Option RevisionRow
if_issued r = if is_issued (state_in r) then r else None

-- the issued revision of a profile: that of its newest issue, where it is Issued now
abbrev pub issued_revision : History → ProfileName → Option RevisionRow
issued_revision h p = if_issued (option_and_then (revision_of h p) (last_issue h p))
