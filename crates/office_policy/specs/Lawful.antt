-- Histories that the policy allows.
use Rattle.std.specs.Prelude.{◌≡◌, ◌<◌, ◌^◌, ℕ, List, [], ◌∷◌, true, Some}
use Rattle.profile_text.specs.Digest.{digest_of}
use Rattle.review_policy.specs.declared.ask.Ask.{Ask}
use Rattle.review_policy.specs.declared.ask.Request.{Request}
use Rattle.review_policy.specs.declared.answer.Reply.{Reply}
use Rattle.office_words.specs.Words.{is_token}
use Rattle.office_words.specs.declared.row.UserRow.{UserRow}
use Rattle.office_policy.specs.History.{Event, founded, History}
use Rattle.office_policy.specs.Users.{user_of}
use Rattle.office_policy.specs.Verdict.{accepted, verdict_of, verdict}
use Rattle.office_policy.specs.Callers.{caller_of}
use Rattle.office_policy.specs.Formed.{IsWord, IsDigest, HasForms, HasNumber, IsFormed}

-- the event is a founding that can be made: the listed capabilities are some of the 41
abbrev pub IsFounding : Event → Type 0
IsFounding (founded name team digest listed) =
    IsWord name × IsWord team × IsDigest digest × (listed < 2 ^ 41)
IsFounding _ = ⊥

-- the event is that of what a user of then may ask: of the forms, and allowed to that user on the
-- events before
pub record IsAllowed (before : History) (e : Event) : Type 0 where
  pub caller : UserRow
  pub enrolled : user_of before caller.name ≡ Some caller
  pub ask : Ask
  pub forms : HasForms ask
  pub number : HasNumber ask
  pub reply : Reply
  pub allowed : verdict_of before (Some caller) ask ≡ accepted reply (Some e)

-- the event is that of a request that can be made, with a token, and that the policy allows on the
-- events before it
pub record IsRequested (before : History) (e : Event) : Type 0 where
  pub request : Request
  pub formed : IsFormed request
  pub reply : Reply
  pub allowed : verdict before request ≡ accepted reply (Some e)

-- the first event is a founding, and each later one is allowed on those before it
abbrev pub IsLawfulHistory : History → Type 0
IsLawfulHistory [] = ⊥
IsLawfulHistory (e ∷ []) = IsFounding e
IsLawfulHistory (e ∷ f ∷ before) = IsAllowed (f ∷ before) e × IsLawfulHistory (f ∷ before)

-- ---- with tokens

-- some token has this digest
abbrev pub IsOfToken : List ℕ → Type 0
IsOfToken digest = (token : List ℕ) × (is_token token ≡ true) × (digest ≡ digest_of token)

-- whoever asked for the event had a token to show
abbrev pub HadToken : History → Event → Type 0
HadToken before e =
    (name : List ℕ) (user : UserRow) → caller_of e ≡ Some name → user_of before name ≡ Some user
    → IsOfToken user.digest

-- each event of the history was asked for by one who had a token to show
abbrev pub AllHadTokens : History → Type 0
AllHadTokens [] = Unit {0}
AllHadTokens (e ∷ before) = HadToken before e × AllHadTokens before

-- the first event is a founding, and each later one is that of a request with a token, which the
-- policy allows on those before it
abbrev pub IsHistoryOfRequests : History → Type 0
IsHistoryOfRequests [] = ⊥
IsHistoryOfRequests (e ∷ []) = IsFounding e
IsHistoryOfRequests (e ∷ f ∷ before) =
    IsRequested (f ∷ before) e × IsHistoryOfRequests (f ∷ before)
