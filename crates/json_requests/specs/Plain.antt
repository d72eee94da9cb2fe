-- Requests, without where the bytes of a document lie in memory.
use Rattle.std.specs.Prelude.{ℕ, List, Bool, Option}
use Rattle.review_policy.specs.declared.act.ProfileAct.{ProfileAct}
use Rattle.review_policy.specs.declared.act.ProfileView.{ProfileView}
use Rattle.review_policy.specs.declared.act.RevisionAct.{RevisionAct}
use Rattle.review_policy.specs.declared.act.RevisionView.{RevisionView}
use Rattle.review_policy.specs.declared.ask.Ask.{Ask}
use Rattle.review_policy.specs.declared.ask.Ask.TheVariants as asks
use Rattle.office_words.specs.declared.name.ProfileName.{ProfileName}
use Rattle.review_policy.specs.declared.ask.Request.{Request}

-- what a request asks for
pub data PlainAsk : Type 0 where
  enrol : (user team : List ℕ) → (roles : ℕ) → (digest : List ℕ) → PlainAsk
  submit : ProfileName → (document : List ℕ) → PlainAsk
  vote : ProfileName → (revision : ℕ) → (digest : List ℕ) → (approve : Bool) → PlainAsk
  act_on_revision : RevisionAct → ProfileName → (revision : ℕ) → PlainAsk
  see_revision : RevisionView → ProfileName → (revision : ℕ) → PlainAsk
  list : (team : List ℕ) → PlainAsk
  act_on_profile : ProfileAct → ProfileName → PlainAsk
  see_profile : ProfileView → ProfileName → PlainAsk
  me : PlainAsk
  revisions : ProfileName → (before : Option ℕ) → PlainAsk

pub record PlainRequest : Type 0 where
  pub token : List ℕ
  pub ask : PlainAsk

abbrev pub plain_ask : Ask → PlainAsk
plain_ask (asks.Enrol user team roles digest) = enrol user team roles digest
plain_ask (asks.Submit name document) = submit name document.items
plain_ask (asks.Vote name revision digest approve) = vote name revision digest approve
plain_ask (asks.ActOnRevision act name revision) = act_on_revision act name revision
plain_ask (asks.SeeRevision view name revision) = see_revision view name revision
plain_ask (asks.List team) = list team
plain_ask (asks.ActOnProfile act name) = act_on_profile act name
plain_ask (asks.SeeProfile view name) = see_profile view name
plain_ask asks.Me = me
plain_ask (asks.Revisions name before) = revisions name before

-- a request, as a line has it
abbrev pub plain : Request → PlainRequest
plain r = record { token = r.token; ask = plain_ask r.ask }
