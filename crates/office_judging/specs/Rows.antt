-- The rows of rules, and what the first that refuses comes to.
use Rattle.std.specs.Prelude.{◌≡◌, ℕ, suc, List, [], ◌∷◌, Bool, if◌then◌else◌, Some, Result, Ok, Err}
use Rattle.std.specs.Prelude.{⊤}
use Rattle.sqlite.specs.State.{State}
use Rattle.review_policy.specs.declared.act.ProfileAct.TheVariants.{Hold, Release}
use Rattle.review_policy.specs.declared.act.RevisionAct.TheVariants.{Issue, Withdraw, Adopt}
use Rattle.review_policy.specs.declared.ask.Ask.{Ask}
use Rattle.review_policy.specs.declared.ask.Ask.TheVariants as ask
use Rattle.review_policy.specs.declared.denial.Denial.{Denial}
use Rattle.review_policy.specs.declared.denial.Rule.{Rule}
use Rattle.review_policy.specs.declared.denial.Rule.TheVariants.{RoleMissing, OtherTeam}
use Rattle.review_policy.specs.declared.denial.Rule.TheVariants.{NoRevision, AuthorVotes, NotOpen}
use Rattle.review_policy.specs.declared.denial.Rule.TheVariants.{OtherBytes, NotStanding}
use Rattle.review_policy.specs.declared.denial.Rule.TheVariants.{AuthorAdopts, NotIssued}
use Rattle.review_policy.specs.declared.denial.Rule.TheVariants.{NothingIssued, NoProfile}
use Rattle.review_policy.specs.declared.denial.Rule.TheVariants.{AlreadyHeld, NotHeld, Held}
use Rattle.office_words.specs.declared.row.UserRow.{UserRow}
use Rattle.office_policy.specs.History.{History}
use Rattle.office_policy.specs.Verdict.{done_of, verdict_of}
use Rattle.office_judging.specs.declared.looked.Looked.{Looked}
use Rattle.office_judging.specs.declared.refusal.Refusal.{Refusal}
use Rattle.office_judging.specs.Judged.{Judges}
use Rattle.office_judging.specs.Memo.{IsPartOf, looked_at}
use Rattle.office_judging.specs.Refusing.{refuses}

-- a request whose rules stand in a row
abbrev pub HasRow : Ask → Type 0
HasRow (ask.Enrol user team roles digest) = ⊥
HasRow (ask.Submit p document) = ⊥
HasRow (ask.ActOnRevision Issue p n) = ⊥
HasRow _ = Unit {0}

-- the rules of a request behind the first, in order
abbrev pub rules_of : Ask → List Rule
rules_of (ask.Vote p n digest approve) =
    RoleMissing ∷ NoRevision ∷ AuthorVotes ∷ NotOpen ∷ OtherBytes ∷ []
rules_of (ask.ActOnRevision Withdraw p n) =
    RoleMissing ∷ OtherTeam ∷ NoRevision ∷ NotStanding ∷ []
rules_of (ask.ActOnRevision Adopt p n) =
    RoleMissing ∷ NoRevision ∷ AuthorAdopts ∷ NotIssued ∷ []
rules_of (ask.SeeRevision view p n) = RoleMissing ∷ OtherTeam ∷ NoRevision ∷ []
rules_of (ask.List team) = RoleMissing ∷ OtherTeam ∷ []
rules_of (ask.ActOnProfile Hold p) = RoleMissing ∷ NoProfile ∷ AlreadyHeld ∷ []
rules_of (ask.ActOnProfile Release p) = RoleMissing ∷ NoProfile ∷ NotHeld ∷ []
rules_of (ask.SeeProfile view p) = RoleMissing ∷ OtherTeam ∷ NothingIssued ∷ Held ∷ []
rules_of (ask.Revisions p before) = RoleMissing ∷ OtherTeam ∷ NoProfile ∷ []
rules_of _ = []

-- the first rule that refuses, where the first of these has this number
abbrev pub first_of : (Rule → Bool) → ℕ → List Rule → Result ⊤ Denial
first_of test n [] = Ok tt
first_of test n (rule ∷ rules) =
    if test rule then Err (record { number = n; rule = rule }) else first_of test (suc n) rules

-- the first rule that refuses what this caller asks, by what was looked up
abbrev pub first_by : UserRow → Ask → Looked → Result ⊤ Denial
first_by c a l = first_of (refuses c a l) 2 (rules_of a)

-- no rule refuses, and what was looked up is what looking back gives
abbrev pub IsLetThrough : UserRow → Ask → History → Looked → Type 0
IsLetThrough c a h l =
    (verdict_of h (Some c) a ≡ done_of h (Some c) a) × IsPartOf l (looked_at h c a)

-- the rules of what this caller asks are asked
abbrev pub JudgesRow : (old new : State) → Result Looked Refusal → UserRow → Ask → Type 0
JudgesRow old new result c a =
    Judges old new result (λ h. verdict_of h (Some c) a) (IsLetThrough c a)
