-- Votes: the last one of each name on a revision stands, and counts while its voter is a reviewer.
use Rattle.std.specs.Prelude.{ℕ, List, [], ◌∷◌, Bool, false, not, ◌&&◌, ◌==◌, if◌then◌else◌, Option}
use Rattle.std.specs.Prelude.{Some, None, option_map, filter, filter_map, length, bytes_eq}
use Rattle.office_words.specs.declared.name.ProfileName.{ProfileName}
use Rattle.office_words.specs.declared.revision.VoteRow.{VoteRow}
use Rattle.office_words.specs.declared.role.Role.TheVariants.{Security}
use Rattle.office_words.specs.declared.listed.Tally.{Tally}
use Rattle.office_words.specs.Tables.{Vote, is_profile}
use Rattle.office_words.specs.Lists.{holds_role, standing_vote}
use Rattle.office_policy.specs.History.{voted, History}
use Rattle.office_policy.specs.Users.{user_of}
use Rattle.office_policy.specs.Names.{with_name}

-- a vote, with the events before it
pub record CastVote : Type 0 where
  pub approves : Bool
  pub digest : List ℕ
  pub before : History

-- the last vote of a name on a revision
abbrev pub vote_of : History → ProfileName → ℕ → List ℕ → Option CastVote
vote_of [] p n name = None
vote_of (voted c q m d a ∷ before) p n name =
    if is_profile p q && (n == m) && bytes_eq name c
    then Some (record { approves = a; digest = d; before = before })
    else vote_of before p n name
vote_of (_ ∷ before) p n name = vote_of before p n name

-- what is kept of a vote: what it says, and whether its voter held security in the events before it
abbrev pub kept_vote : List ℕ → CastVote → Vote
kept_vote name v =
    record { approves = v.approves; security = holds_role (user_of v.before name) Security }

abbrev pub kept_vote_of : History → ProfileName → ℕ → List ℕ → Option Vote
kept_vote_of h p n name = option_map (kept_vote name) (vote_of h p n name)

-- how the vote of a name stands, by the roles that the name has now
abbrev pub standing_at : History → ProfileName → ℕ → List ℕ → Option VoteRow
standing_at h p n name =
    option_map (λ v. standing_vote name v (user_of h name)) (kept_vote_of h p n name)

-- the names with a vote on a revision, each once, in byte order
abbrev pub voters_of : History → ProfileName → ℕ → List (List ℕ)
voters_of [] p n = []
voters_of (voted c q m d a ∷ before) p n =
    if is_profile p q && (n == m) then with_name c (voters_of before p n) else voters_of before p n
voters_of (_ ∷ before) p n = voters_of before p n

-- the standing votes on a revision, by voter in byte order
abbrev pub standing_votes : History → ProfileName → ℕ → List VoteRow
standing_votes h p n = filter_map (standing_at h p n) (voters_of h p n)

-- whether a test holds of a standing vote
abbrev pub passes : (VoteRow → Bool) → Option VoteRow → Bool
passes test None = false
passes test (Some row) = test row

-- the names whose standing vote counts and approves
abbrev pub approvals : History → ProfileName → ℕ → List (List ℕ)
approvals h p n =
    filter (λ name. passes (λ row. row.counts && row.approve) (standing_at h p n name))
    (voters_of h p n)

-- the approvals with security
abbrev pub secure_approvals : History → ProfileName → ℕ → List (List ℕ)
secure_approvals h p n =
    filter (λ name. passes (λ row. row.approve && row.security) (standing_at h p n name))
    (voters_of h p n)

-- the names whose standing vote counts and rejects
abbrev pub rejections : History → ProfileName → ℕ → List (List ℕ)
rejections h p n =
    filter (λ name. passes (λ row. row.counts && not row.approve) (standing_at h p n name))
    (voters_of h p n)

-- how many these are
abbrev pub tally_at : History → ProfileName → ℕ → Tally
tally_at h p n = record {
  approvals = length (approvals h p n);
  secure = length (secure_approvals h p n);
  rejections = length (rejections h p n);
}
