-- What each write of a store leaves of the tables.
use Rattle.std.specs.Prelude.{ℕ, List, true, false, ◌&&◌, ◌==◌, Some, None, option_map}
use Rattle.std.specs.Prelude.{if◌then◌else◌, bytes_eq}
use Rattle.office_words.specs.declared.name.ProfileName.{ProfileName}
use Rattle.office_words.specs.declared.revision.State.{State}
use Rattle.office_words.specs.declared.revision.State.TheVariants.{Open, Closed, Issued, Replaced}
use Rattle.office_words.specs.declared.revision.State.TheVariants.{Withdrawn}
use Rattle.office_words.specs.declared.row.UserRow.{UserRow}
use Rattle.office_words.specs.declared.row.RevisionRow.{RevisionRow}
use Rattle.office_words.specs.Tables.{Tables, Vote, is_profile}

-- the tables of a new office: its first user and the listed capabilities
abbrev pub founded_tables : UserRow → ℕ → Tables
founded_tables u listed = record {
  listed = listed;
  users = λ name. if bytes_eq name u.name then Some u else None;
  revisions = λ p n. None;
  votes = λ p n voter. None;
  baselines = λ team. None;
  holds = λ p. false;
}

-- a user's row, in the place of any of that name
abbrev pub with_user : UserRow → Tables → Tables
with_user u t = record t { users = λ name. if bytes_eq name u.name then Some u else t.users name }

-- a revision in a state
abbrev pub in_state : State → RevisionRow → RevisionRow
in_state s r = record r { state = s }

-- a revision after a later one was submitted
abbrev pub after_submission : RevisionRow → RevisionRow
after_submission r = in_state (closed_of r.state) r
  where
    closed_of : State → State
    closed_of Open = Closed
    closed_of s = s

-- a new revision, which closes the open one of its profile
abbrev pub with_revision : ProfileName → RevisionRow → Tables → Tables
with_revision p r t = record t {
  revisions = λ q n.
      if is_profile q p
      then (if n == r.number then Some r else option_map after_submission (t.revisions q n))
      else t.revisions q n;
}

-- a user's vote, in the place of any earlier one of that user there
abbrev pub with_vote : ProfileName → ℕ → List ℕ → Vote → Tables → Tables
with_vote p number voter v t = record t {
  votes = λ q n name.
      if is_profile q p && (n == number) && bytes_eq name voter
      then Some v
      else t.votes q n name;
}

-- a revision after another of its profile was issued
abbrev pub after_issue : RevisionRow → RevisionRow
after_issue r = in_state (replaced_of r.state) r
  where
    replaced_of : State → State
    replaced_of Issued = Replaced
    replaced_of s = s

-- a revision is issued, which replaces the issued one of its profile
abbrev pub with_issued : ProfileName → ℕ → Tables → Tables
with_issued p number t = record t {
  revisions = λ q n.
      if is_profile q p
      then (if n == number
      then option_map (in_state Issued) (t.revisions q n)
      else option_map after_issue (t.revisions q n))
      else t.revisions q n;
}

-- a revision is withdrawn
abbrev pub with_withdrawn : ProfileName → ℕ → Tables → Tables
with_withdrawn p number t = record t {
  revisions = λ q n.
      if is_profile q p && (n == number)
      then option_map (in_state Withdrawn) (t.revisions q n)
      else t.revisions q n;
}

-- a team's baseline, in the place of any earlier one
abbrev pub with_baseline : ProfileName → ℕ → Tables → Tables
with_baseline p number t = record t {
  baselines = λ team.
      if bytes_eq team p.team
      then Some (record { profile = p.profile; number = number })
      else t.baselines team;
}

-- a profile is held
abbrev pub with_hold : ProfileName → Tables → Tables
with_hold p t = record t { holds = λ q. if is_profile q p then true else t.holds q }

-- a profile is held no longer
abbrev pub without_hold : ProfileName → Tables → Tables
without_hold p t = record t { holds = λ q. if is_profile q p then false else t.holds q }
