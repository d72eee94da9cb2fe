-- What requests that only read are answered.
use Rattle.std.specs.Prelude.{◌≡◌, Some, None}
use Rattle.review_policy.specs.declared.answer.Reply.{Reply}
use Rattle.review_policy.specs.declared.ask.Ask.{Ask}
use Rattle.review_policy.specs.declared.ask.Ask.TheVariants as ask
use Rattle.office_words.specs.declared.row.UserRow.{UserRow}
use Rattle.office_words.specs.Tables.{Tables}
use Rattle.office_policy.specs.History.{History}
use Rattle.office_policy.specs.Lawful.{IsLawfulHistory}
use Rattle.office_policy.specs.TablesOf.{tables_of}
use Rattle.office_policy.specs.Verdict.{accepted, done_of}
use Rattle.office_judging.specs.declared.looked.Looked.{Looked}
use Rattle.office_judging.specs.Memo.{IsPartOf, looked_at}

-- a request that looks at what others did
abbrev pub IsView : Ask → Type 0
IsView (ask.SeeRevision view p n) = Unit {0}
IsView (ask.List team) = Unit {0}
IsView (ask.SeeProfile view p) = Unit {0}
IsView (ask.Revisions p before) = Unit {0}
IsView _ = ⊥

-- what is done, where what was looked up is what looking back gives, is this answer
abbrev pub Answers : Ask → Looked → Tables → Reply → Type 0
Answers a l t reply =
    (h : History) (c : UserRow) → IsLawfulHistory h → t ≡ tables_of h
    → IsPartOf l (looked_at h c a) → done_of h (Some c) a ≡ accepted reply None
