-- What happens by a change is what its caller asks.
use Rattle.std.proofs.Common.{◌≡◌, Some, refl, sym, subst}
use Rattle.review_policy.specs.declared.act.RevisionAct.TheVariants.{Withdraw, Adopt}
use Rattle.review_policy.specs.declared.answer.Reply.TheVariants.{Nothing}
use Rattle.review_policy.specs.declared.ask.Ask.{Ask}
use Rattle.review_policy.specs.declared.ask.Ask.TheVariants as ask
use Rattle.office_words.specs.declared.row.UserRow.{UserRow}
use Rattle.office_policy.specs.declared.change.Change.{Change}
use Rattle.office_policy.specs.Asked.{IsAsked}
use Rattle.office_policy.specs.Happened.{event_by}
use Rattle.office_policy.specs.History.{History}
use Rattle.office_policy.specs.Judging.{IsNext}
use Rattle.office_policy.specs.Verdict.{accepted, done_of}
use Rattle.office_judging.specs.Changing.{IsChange, IsChangeOf}
use Rattle.office_judging.specs.Rows.{HasRow}

module _ (h : History) (c : UserRow) where
  -- this is done where no rule refuses, no revision is added, and it was asked
  pub record IsDone (a : Ask) (change : Change) : Type 0 where
    pub done : done_of h (Some c) a ≡ accepted Nothing (Some (event_by c.name change))
    pub next : IsNext h c.name change
    pub asked : IsAsked c.name a (Some (event_by c.name change))

  pub is_done : (a : Ask) (change : Change) → IsChange a → IsChangeOf a change → IsDone a change
  is_done (ask.Vote p n digest approve) change has is = subst (IsDone (ask.Vote p n digest approve)) (sym is) (record { done = refl; next = tt; asked = refl })
  is_done (ask.ActOnRevision Withdraw p n) change has is = subst (IsDone (ask.ActOnRevision Withdraw p n)) (sym is) (record { done = refl; next = tt; asked = refl })
  is_done (ask.ActOnRevision Adopt p n) change has is = subst (IsDone (ask.ActOnRevision Adopt p n)) (sym is) (record { done = refl; next = tt; asked = refl })
  is_done (ask.ActOnProfile act p) change has is = subst (IsDone (ask.ActOnProfile act p)) (sym is) (record { done = refl; next = tt; asked = refl })
  is_done _ change has is = absurd has

-- its rules stand in a row
pub change_row : (a : Ask) → IsChange a → HasRow a
change_row (ask.Vote p n digest approve) is = tt
change_row (ask.ActOnRevision Withdraw p n) is = tt
change_row (ask.ActOnRevision Adopt p n) is = tt
change_row (ask.ActOnProfile act p) is = tt
change_row _ is = absurd is
