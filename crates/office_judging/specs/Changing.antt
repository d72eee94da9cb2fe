-- What requests change.
use Rattle.std.specs.Prelude.{◌≡◌}
use Rattle.review_policy.specs.declared.act.RevisionAct.TheVariants.{Withdraw, Adopt}
use Rattle.review_policy.specs.declared.ask.Ask.{Ask}
use Rattle.review_policy.specs.declared.ask.Ask.TheVariants as ask
use Rattle.office_policy.specs.declared.change.Change.{Change}
use Rattle.office_policy.specs.declared.change.Change.TheVariants as changes

-- a request that changes something, and no revision is added by it
abbrev pub IsChange : Ask → Type 0
IsChange (ask.Vote p n digest approve) = Unit {0}
IsChange (ask.ActOnRevision Withdraw p n) = Unit {0}
IsChange (ask.ActOnRevision Adopt p n) = Unit {0}
IsChange (ask.ActOnProfile act p) = Unit {0}
IsChange _ = ⊥

-- the change that is asked
abbrev pub IsChangeOf : Ask → Change → Type 0
IsChangeOf (ask.Vote p n digest approve) change = change ≡ changes.Vote p n digest approve
IsChangeOf (ask.ActOnRevision act p n) change = change ≡ changes.ActOnRevision act p n
IsChangeOf (ask.ActOnProfile act p) change = change ≡ changes.ActOnProfile act p
IsChangeOf _ change = ⊥
