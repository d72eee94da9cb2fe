-- Which single role may ask what, as tables: a row for each kind of request, a column for each
-- role.
use Rattle.std.specs.Prelude.{ℕ, List, [], ◌∷◌, true, Option, Some, None, codes, map, Result, Ok}
use Rattle.std.specs.Prelude.{Vec, ⊤}
use Rattle.std.specs.declared.alloc.Global.{Global}
use Rattle.review_policy.specs.declared.act.RevisionAct.TheVariants.{Issue, Withdraw, Adopt}
use Rattle.review_policy.specs.declared.act.RevisionView.TheVariants.{Show, Sheet}
use Rattle.review_policy.specs.declared.act.ProfileAct.TheVariants.{Hold, Release}
use Rattle.review_policy.specs.declared.act.ProfileView.TheVariants.{Fetch, Issued}
use Rattle.review_policy.specs.declared.ask.Ask.{Ask}
use Rattle.review_policy.specs.declared.ask.Ask.TheVariants as ask
use Rattle.review_policy.specs.declared.denial.Denial.{Denial}
use Rattle.review_policy.specs.declared.denial.Rule.TheVariants.{RoleMissing, OtherTeam}
use Rattle.review_policy.specs.Rules.{first_denial}
use Rattle.office_words.specs.declared.row.UserRow.{UserRow}
use Rattle.office_policy.specs.History.{History}
use Rattle.office_policy.specs.Verdict.{rules_of}
use Rattle.office_policy.specs.Callers.{of_caller}
use Rattle.office_policy.specs.Examples.{blue, web, refused}

-- a request of each kind, of a profile of the team blue
abbrev pub each_kind : Vec ℕ Global → List Ask
each_kind document =
    ask.Enrol (codes "new") blue 0 (1 ∷ [])
    ∷ ask.Submit web document
    ∷ ask.Vote web 1 (9 ∷ []) true
    ∷ ask.ActOnRevision Issue web 1
    ∷ ask.ActOnRevision Withdraw web 1
    ∷ ask.ActOnRevision Adopt web 1
    ∷ ask.SeeRevision Show web 1
    ∷ ask.SeeRevision Sheet web 1
    ∷ ask.List blue
    ∷ ask.SeeProfile Fetch web
    ∷ ask.ActOnProfile Hold web
    ∷ ask.ActOnProfile Release web
    ∷ ask.Me
    ∷ ask.Revisions web None
    ∷ ask.SeeProfile Issued web
    ∷ []

-- a user of a team with these roles
abbrev pub user_with : (team : List ℕ) → (roles : ℕ) → UserRow
user_with team roles = record { name = codes "who"; team = team; roles = roles; digest = 1 ∷ [] }

-- what the rules that ask who the caller is decide
abbrev pub decided : History → Option UserRow → Ask → Result ⊤ Denial
decided h caller a = first_denial (of_caller (rules_of h caller a))

-- the sets of one role: registrar, author, reviewer, security, issuer, machine
abbrev pub single_roles : List ℕ
single_roles = 1 ∷ 2 ∷ 4 ∷ 8 ∷ 16 ∷ 32 ∷ []

-- what is decided for each of them, in a team
abbrev pub decided_for_each : History → (team : List ℕ) → Ask → List (Result ⊤ Denial)
decided_for_each h team a = map (λ roles. decided h (Some (user_with team roles)) a) single_roles

-- ---- the tables

-- no rule refuses, or that of the role does, or that of the team
abbrev pub pass : Result ⊤ Denial
pass = Ok tt

abbrev pub role : Result ⊤ Denial
role = refused 2 RoleMissing

abbrev pub team : Result ⊤ Denial
team = refused 3 OtherTeam

-- each column is a role, in the order of the sets above
abbrev pub row :
    (registrar author reviewer security issuer machine : Result ⊤ Denial) → List (Result ⊤ Denial)
row registrar author reviewer security issuer machine = registrar ∷ author ∷ others
  where
    others : List (Result ⊤ Denial)
    others = reviewer ∷ security ∷ issuer ∷ machine ∷ []

-- each row is a kind of request, in the order above: of the own team
abbrev pub of_own_team : List (List (Result ⊤ Denial))
of_own_team =
    row pass role role role role role
    ∷ row role pass role role role role
    ∷ row role role pass role role role
    ∷ row role role role role pass role
    ∷ row role pass role pass role role
    ∷ row role role role pass role role
    ∷ row role pass pass pass pass role
    ∷ row role pass pass pass pass role
    ∷ row role pass pass pass pass role
    ∷ row role role role role role pass
    ∷ row role role role pass role role
    ∷ row role role role pass role role
    ∷ row pass pass pass pass pass pass
    ∷ row role pass pass pass pass role
    ∷ row role role role role role pass
    ∷ []

-- each row is a kind of request, in the order above: of another team
abbrev pub of_other_team : List (List (Result ⊤ Denial))
of_other_team =
    row pass role role role role role
    ∷ row role team role role role role
    ∷ row role role pass role role role
    ∷ row role role role role pass role
    ∷ row role team role pass role role
    ∷ row role role role pass role role
    ∷ row role team pass pass pass role
    ∷ row role team pass pass pass role
    ∷ row role team pass pass pass role
    ∷ row role role role role role team
    ∷ row role role role pass role role
    ∷ row role role role pass role role
    ∷ row pass pass pass pass pass pass
    ∷ row role team pass pass pass role
    ∷ row role role role role role team
    ∷ []
