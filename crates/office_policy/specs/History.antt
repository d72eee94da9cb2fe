-- What has happened in an office: its founding, and what users did.
use Rattle.std.specs.Prelude.{ℕ, List, Bool}
use Rattle.review_policy.specs.declared.act.ProfileAct.{ProfileAct}
use Rattle.review_policy.specs.declared.act.RevisionAct.{RevisionAct}
use Rattle.review_policy.specs.declared.act.RevisionAct.TheVariants.{Issue, Withdraw, Adopt}
use Rattle.office_words.specs.declared.name.ProfileName.{ProfileName}
use Rattle.office_policy.specs.declared.deed.Deed.{Deed}
use Rattle.office_policy.specs.declared.deed.Deed.TheVariants as deeds

-- a founding has its first user, and each other event the name of who did it
pub data Event : Type 0 where
  founded : (name team digest : List ℕ) → (listed : ℕ) → Event
  did : (caller : List ℕ) → Deed → Event

-- ---- what was done, by its kind

pattern abbrev pub enrolled : (caller name team : List ℕ) → (roles : ℕ) → (digest : List ℕ) → Event
enrolled caller name team roles digest = did caller (deeds.Enrol name team roles digest)

-- with the canonical text
pattern abbrev pub submitted : (caller : List ℕ) → ProfileName → (text : List ℕ) → Event
submitted caller p text = did caller (deeds.Submit p text)

-- with the digest that the vote named
pattern abbrev pub voted :
    (caller : List ℕ) → ProfileName → (number : ℕ) → (digest : List ℕ) → (approves : Bool) → Event
voted caller p number digest approves = did caller (deeds.Vote p number digest approves)

pattern abbrev pub on_revision : (caller : List ℕ) → RevisionAct → ProfileName → (number : ℕ) → Event
on_revision caller act p number = did caller (deeds.ActOnRevision act p number)

pattern abbrev pub on_profile : (caller : List ℕ) → ProfileAct → ProfileName → Event
on_profile caller act p = did caller (deeds.ActOnProfile act p)

-- ---- what was done to a revision, by its act

pattern abbrev pub issued : (caller : List ℕ) → ProfileName → (number : ℕ) → Event
issued caller p number = did caller (deeds.ActOnRevision Issue p number)

pattern abbrev pub withdrawn : (caller : List ℕ) → ProfileName → (number : ℕ) → Event
withdrawn caller p number = did caller (deeds.ActOnRevision Withdraw p number)

pattern abbrev pub adopted : (caller : List ℕ) → ProfileName → (number : ℕ) → Event
adopted caller p number = did caller (deeds.ActOnRevision Adopt p number)

-- the newest event first, so that to look back is to go down the list
abbrev pub History : Type 0
History = List Event
