-- Histories of requests with tokens, and lawful ones.
use Rattle.std.proofs.Common.{◌≡◌, ◌∙◌, ◌↔◌, [], ◌∷◌, Some, sym, ap, subst}
use Rattle.profile_text.specs.Digest.{digest_of}
use Rattle.office_words.specs.declared.row.UserRow.{UserRow}
use Rattle.office_policy.specs.History.{Event, History, founded}
use Rattle.office_policy.specs.Users.{user_of}
use Rattle.office_policy.specs.Verdict.{verdict_of, accepted}
use Rattle.office_policy.specs.Lawful.{IsLawfulHistory, IsAllowed, IsFounding, IsRequested, IsOfToken, HadToken, AllHadTokens, IsHistoryOfRequests}
use Rattle.office_policy.proofs.UserFacts.{showing_one}
use Rattle.office_policy.proofs.LawFacts.{requested_allowed, lawful_apart}
use Rattle.office_policy.proofs.CallerFacts.{allowed_by, for_caller}

-- whoever asked with a token had one
requested_had : (h : History) (e : Event) → IsRequested h e → HadToken h e
requested_had h e is name user by at =
    let caller = for_caller h is.request is.reply (Some e) is.allowed in
    let named : name ≡ caller.caller.name = let both : Some name ≡ Some caller.caller.name = sym by ∙ caller.asked in cc in
    let row : caller.caller ≡ user = let both : Some caller.caller ≡ Some user = sym caller.enrolled ∙ ap (user_of h) (sym named) ∙ at in cc in
    subst (λ (u : UserRow). IsOfToken u.digest) row (is.request.token, is.formed.token, caller.shows)

-- what is allowed to a user with a token is asked by a request that shows it
had_requested : (h : History) → IsLawfulHistory h → (e : Event) → IsAllowed h e → HadToken h e → IsRequested h e
had_requested h lawful e is had =
    let token = had is.caller.name is.caller (allowed_by h e is) is.enrolled in
    let shown = showing_one h (lawful_apart h lawful) (digest_of token.0) is.caller is.enrolled token.2 in
    record {
      request = record { token = token.0; ask = is.ask };
      formed = record { token = token.1; forms = is.forms; number = is.number };
      reply = is.reply;
      allowed = subst (λ u. verdict_of h u is.ask ≡ accepted is.reply (Some e)) (sym shown) is.allowed;
    }

-- nobody asks for a founding
founding_had : (e : Event) → IsFounding e → HadToken [] e
founding_had (founded name team digest listed) is who user by at = absurd cc
founding_had _ is who user by at = absurd is

to_lawful : (h : History) → IsHistoryOfRequests h → IsLawfulHistory h × AllHadTokens h
to_lawful [] is = absurd is
to_lawful (e ∷ []) is = (is, (founding_had e is, tt))
to_lawful (e ∷ f ∷ h) is =
    let rest = to_lawful (f ∷ h) is.1 in
    ((requested_allowed (f ∷ h) e is.0, rest.0), (requested_had (f ∷ h) e is.0, rest.1))

to_requests : (h : History) → IsLawfulHistory h × AllHadTokens h → IsHistoryOfRequests h
to_requests [] is = absurd is.0
to_requests (e ∷ []) is = is.0
to_requests (e ∷ f ∷ h) is =
    (had_requested (f ∷ h) is.0.1 e is.0.0 is.1.0, to_requests (f ∷ h) (is.0.1, is.1.1))

pub requests_of_tokens : (h : History) → IsHistoryOfRequests h ↔ (IsLawfulHistory h × AllHadTokens h)
requests_of_tokens h = (to_lawful h, to_requests h)
