-- The profiles of a team, by name.
use Rattle.std.specs.Prelude.{ℕ, List, [], ◌∷◌, map, if◌then◌else◌, bytes_eq}
use Rattle.office_words.specs.declared.name.ProfileName.{ProfileName}
use Rattle.review_policy.specs.declared.answer.ListedProfile.{ListedProfile}
use Rattle.office_policy.specs.History.{submitted, History}
use Rattle.office_policy.specs.Names.{with_name}
use Rattle.office_policy.specs.Revisions.{revision_count, number_of, state_of, issued_revision}

-- the names of a team's profiles, each once, in byte order
abbrev pub profiles_of : History → List ℕ → List (List ℕ)
profiles_of [] team = []
profiles_of (submitted c q t ∷ before) team =
    if bytes_eq team q.team
    then with_name q.profile (profiles_of before team)
    else profiles_of before team
profiles_of (_ ∷ before) team = profiles_of before team

-- what is listed of a profile
abbrev pub listed_profile : History → ProfileName → ListedProfile
listed_profile h p = record {
  profile = p.profile;
  issued = number_of (issued_revision h p);
  revisions = revision_count h p;
  state = state_of h p (revision_count h p);
}

-- the profiles of a team that have a revision
abbrev pub listing_of : History → List ℕ → List ListedProfile
listing_of h team =
    map (λ name. listed_profile h (record { team = team; profile = name })) (profiles_of h team)
