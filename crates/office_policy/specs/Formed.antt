-- The forms of what callers hand in: a request and a founding are of them by their types, but for a
-- revision's number.
use Rattle.std.specs.Prelude.{◌≡◌, ◌<◌, ◌≤◌, ◌^◌, ℕ, List, true, length, All, Some}
use Rattle.office_words.specs.declared.name.ProfileName.{ProfileName}
use Rattle.review_policy.specs.declared.ask.Ask.{Ask}
use Rattle.review_policy.specs.declared.ask.Ask.TheVariants as ask
use Rattle.review_policy.specs.declared.ask.Request.{Request}
use Rattle.office_words.specs.Limits.{max_revisions}
use Rattle.office_words.specs.Words.{is_word, is_token}

abbrev pub IsWord : List ℕ → Type 0
IsWord text = is_word text ≡ true

-- 32 bytes
abbrev pub IsDigest : List ℕ → Type 0
IsDigest digest = (length digest ≡ 32) × All (λ byte. byte < 2 ^ 8) digest

-- a set of the six roles
abbrev pub IsRoles : ℕ → Type 0
IsRoles roles = roles < 2 ^ 6

abbrev pub IsName : ProfileName → Type 0
IsName p = IsWord p.team × IsWord p.profile

-- what is asked for has the forms
abbrev pub HasForms : Ask → Type 0
HasForms (ask.Enrol user team roles digest) =
    IsWord user × IsWord team × IsRoles roles × IsDigest digest
HasForms (ask.Submit p document) = IsName p
HasForms (ask.Vote p n digest approve) = IsName p × IsDigest digest
HasForms (ask.ActOnRevision act p n) = IsName p
HasForms (ask.SeeRevision view p n) = IsName p
HasForms (ask.List team) = IsWord team
HasForms (ask.ActOnProfile act p) = IsName p
HasForms (ask.SeeProfile view p) = IsName p
HasForms ask.Me = Unit {0}
HasForms (ask.Revisions p before) = IsName p

abbrev pub IsNumber : ℕ → Type 0
IsNumber n = (1 ≤ n) × (n ≤ max_revisions)

-- the revision that is asked for has a number from 1 to 9,999, where one is
abbrev pub HasNumber : Ask → Type 0
HasNumber (ask.Vote p n digest approve) = IsNumber n
HasNumber (ask.ActOnRevision act p n) = IsNumber n
HasNumber (ask.SeeRevision view p n) = IsNumber n
HasNumber (ask.Revisions p (Some n)) = IsNumber n
HasNumber _ = Unit {0}

-- a request that callers can make
pub record IsFormed (r : Request) : Type 0 where
  pub token : is_token r.token ≡ true
  pub forms : HasForms r.ask
  pub number : HasNumber r.ask
