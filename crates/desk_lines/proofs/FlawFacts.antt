-- Something is wrong with a value just where it is no request.
use Rattle.std.proofs.Common.{◌≡◌, ◌∙◌, ℕ, List, [], ◌∷◌, Bool, true, false, not, cond, Option, Some, None, Result, Ok, Err, codes, is_some, map, option_map, option_and_then, refl, sym, ap, IsSome}
use Rattle.std.specs.Prelude.{◌↔◌}
use Rattle.serde_json.specs.Data.{Data, null, boolean, number, string, array, object}
use Rattle.office_words.specs.declared.name.ProfileName.{ProfileName}
use Rattle.json_requests.specs.declared.bad.BadLine.TheVariants as bad
use Rattle.desk_lines.specs.declared.flaw.Flaw.TheVariants as flaws
use Rattle.desk_lines.specs.declared.flaw.Member.{Member}
use Rattle.desk_lines.specs.declared.flaw.Member.TheVariants as parts
use Rattle.desk_lines.specs.Flaws.{first_unformed, flaw_at, flaw_by, flaw_in, member_word, parts_of}
use Rattle.json_requests.specs.Kinds.{Kind, line_members, members_of}
use Rattle.json_requests.specs.Kinds as kinds
use Rattle.json_requests.specs.Members.{◌>>=◌, name_at, text_at, token_at, word_at, revision_at, before_at, digest_at, roles_at, vote_at}
use Rattle.json_requests.specs.Objects.{has_no_other}
use Rattle.json_requests.specs.Plain.{PlainAsk, PlainRequest}
use Rattle.json_requests.specs.Plain as plain
use Rattle.json_requests.specs.Requests.{ask_at, ask_by, ask_in, enrol_at, kind_at, list_at, of_profile, of_revision, or_not_a_request, request_at, request_in, request_of, revisions_at, submit_at, value_of, vote_on}

-- the members that are looked at are those that the kind has
pub parts_are : (kind : Kind) → codes "ask" ∷ map member_word (parts_of kind) ≡ line_members (members_of kind)
parts_are kinds.enrol = refl
parts_are kinds.submit = refl
parts_are kinds.vote = refl
parts_are (kinds.act_on_revision act) = refl
parts_are (kinds.see_revision view) = refl
parts_are kinds.list = refl
parts_are (kinds.act_on_profile act) = refl
parts_are (kinds.see_profile view) = refl
parts_are kinds.me = refl
parts_are kinds.revisions = refl

-- ---- one member after the other

-- this member is named where it isn't there, and else the next
abbrev named : {A : Type 0} → Option A → Member → Option Member → Option Member
named a part next = cond (not (is_some a)) (Some part) next

abbrev name_of : Option (List ℕ) → Option (List ℕ) → Option ProfileName
name_of team profile = team >>= λ t. profile >>= λ p. Some (record { team = t; profile = p })

of_token : {T E : Type 0} (token : Option T) (ask : E) → is_some (named token parts.Token None) ≡ not (is_some (token >>= λ t. Some ask))
of_token None ask = refl
of_token (Some t) ask = refl

of_team : {T A E : Type 0} (token : Option T) (team : Option A) (ask : A → E)
    → is_some (named token parts.Token (named team parts.Team None)) ≡ not (is_some (token >>= λ t. team >>= λ x. Some (ask x)))
of_team None team ask = refl
of_team (Some t) None ask = refl
of_team (Some t) (Some x) ask = refl

of_name : {T E : Type 0} (token : Option T) (team profile : Option (List ℕ)) (ask : ProfileName → E)
    → is_some (named token parts.Token (named team parts.Team (named profile parts.Profile None)))
    ≡ not (is_some (token >>= λ t. name_of team profile >>= λ name. Some (ask name)))
of_name None team profile ask = refl
of_name (Some t) None profile ask = refl
of_name (Some t) (Some x) None ask = refl
of_name (Some t) (Some x) (Some y) ask = refl

-- a profile and one member more
of_name_and : {T C E : Type 0} (token : Option T) (team profile : Option (List ℕ)) (more : Option C) (part : Member) (ask : ProfileName → C → E)
    → is_some (named token parts.Token (named team parts.Team (named profile parts.Profile (named more part None))))
    ≡ not (is_some (token >>= λ t. name_of team profile >>= λ name. more >>= λ c. Some (ask name c)))
of_name_and None team profile more part ask = refl
of_name_and (Some t) None profile more part ask = refl
of_name_and (Some t) (Some x) None more part ask = refl
of_name_and (Some t) (Some x) (Some y) None part ask = refl
of_name_and (Some t) (Some x) (Some y) (Some c) part ask = refl

of_vote : {T R D V E : Type 0} (token : Option T) (team profile : Option (List ℕ)) (revision : Option R) (digest : Option D) (approve : Option V)
    (ask : ProfileName → R → D → V → E)
    → is_some (named token parts.Token (named team parts.Team (named profile parts.Profile
    (named revision parts.Revision (named digest parts.Digest (named approve parts.Vote None))))))
    ≡ not (is_some (token >>= λ t. name_of team profile >>= λ name. revision >>= λ r. digest >>= λ d. approve >>= λ v. Some (ask name r d v)))
of_vote None team profile revision digest approve ask = refl
of_vote (Some t) None profile revision digest approve ask = refl
of_vote (Some t) (Some x) None revision digest approve ask = refl
of_vote (Some t) (Some x) (Some y) None digest approve ask = refl
of_vote (Some t) (Some x) (Some y) (Some r) None approve ask = refl
of_vote (Some t) (Some x) (Some y) (Some r) (Some d) None ask = refl
of_vote (Some t) (Some x) (Some y) (Some r) (Some d) (Some v) ask = refl

of_enrol : {T A B R D E : Type 0} (token : Option T) (user : Option A) (team : Option B) (roles : Option R) (digest : Option D) (ask : A → B → R → D → E)
    → is_some (named token parts.Token (named user parts.User (named team parts.Team (named roles parts.Roles (named digest parts.Digest None)))))
    ≡ not (is_some (token >>= λ t. user >>= λ x. team >>= λ y. roles >>= λ r. digest >>= λ d. Some (ask x y r d)))
of_enrol None user team roles digest ask = refl
of_enrol (Some t) None team roles digest ask = refl
of_enrol (Some t) (Some x) None roles digest ask = refl
of_enrol (Some t) (Some x) (Some y) None digest ask = refl
of_enrol (Some t) (Some x) (Some y) (Some r) None ask = refl
of_enrol (Some t) (Some x) (Some y) (Some r) (Some d) ask = refl

-- of a kind's members one isn't of its form just where the token or the ask isn't
of_kind : (d : Data) (kind : Kind) → is_some (first_unformed d (parts_of kind)) ≡ not (is_some (token_at d >>= λ t. ask_at kind d))
unfolding enrol_at submit_at vote_on of_revision list_at of_profile revisions_at name_at
of_kind d kinds.enrol = of_enrol (token_at d) (word_at (codes "user") d) (word_at (codes "team") d) (roles_at d) (digest_at d) plain.enrol
of_kind d kinds.submit =
    of_name_and (token_at d) (word_at (codes "team") d) (word_at (codes "profile") d) (text_at (codes "document") d) parts.Document plain.submit
of_kind d kinds.vote =
    of_vote (token_at d) (word_at (codes "team") d) (word_at (codes "profile") d) (revision_at d) (digest_at d) (vote_at d) plain.vote
of_kind d (kinds.act_on_revision act) =
    of_name_and (token_at d) (word_at (codes "team") d) (word_at (codes "profile") d) (revision_at d) parts.Revision (plain.act_on_revision act)
of_kind d (kinds.see_revision view) =
    of_name_and (token_at d) (word_at (codes "team") d) (word_at (codes "profile") d) (revision_at d) parts.Revision (plain.see_revision view)
of_kind d kinds.list = of_team (token_at d) (word_at (codes "team") d) plain.list
of_kind d (kinds.act_on_profile act) = of_name (token_at d) (word_at (codes "team") d) (word_at (codes "profile") d) (plain.act_on_profile act)
of_kind d (kinds.see_profile view) = of_name (token_at d) (word_at (codes "team") d) (word_at (codes "profile") d) (plain.see_profile view)
of_kind d kinds.me = of_token (token_at d) plain.me
of_kind d kinds.revisions =
    of_name_and (token_at d) (word_at (codes "team") d) (word_at (codes "profile") d) (before_at d) parts.Before plain.revisions

-- ---- a value

-- what a token and an ask make
abbrev made : Option (List ℕ) → Option PlainAsk → Option PlainRequest
made token ask = token >>= λ t. ask >>= λ a. Some (record { token = t; ask = a })

made_both : (token : Option (List ℕ)) (ask : Option PlainAsk) → is_some (token >>= λ t. ask) ≡ is_some (made token ask)
made_both None ask = refl
made_both (Some t) None = refl
made_both (Some t) (Some a) = refl

made_none : (token : Option (List ℕ)) → is_some (made token None) ≡ false
made_none None = refl
made_none (Some t) = refl

told_as : (part : Option Member) → is_some (option_map flaws.Member part) ≡ is_some part
told_as None = refl
told_as (Some part) = refl

-- with the members of its kind alone, or with another
by_kind : (d : Data) (kind : Kind) (alone : Bool)
    → is_some (cond alone (option_map flaws.Member (first_unformed d (parts_of kind))) (Some flaws.Unknown)) ≡ not (is_some (made (token_at d) (cond alone (ask_at kind d) None)))
by_kind d kind false = ap not (sym (made_none (token_at d)))
by_kind d kind true = told_as (first_unformed d (parts_of kind)) ∙ of_kind d kind ∙ ap not (made_both (token_at d) (ask_at kind d))

by_ask : (d : Data) (kind : Option Kind) → is_some (flaw_by d kind) ≡ not (is_some (made (token_at d) (option_and_then (ask_by d) kind)))
by_ask d None = ap not (sym (made_none (token_at d)))
by_ask d (Some kind) = rw (parts_are kind) (by_kind d kind (has_no_other (line_members (members_of kind)) d))

flawed : (d : Data) → is_some (flaw_at d) ≡ not (is_some (request_at d))
unfolding flaw_at request_at ask_in token_at
flawed null = refl
flawed (boolean b) = refl
flawed (number n) = refl
flawed (string s) = refl
flawed (array ds) = refl
flawed (object ms) = by_ask (object ms) (kind_at (object ms))

-- ---- a line

of_request : (r : Option PlainRequest) (flawed : Bool) → flawed ≡ not (is_some r) → (or_not_a_request r ≡ Err bad.NotARequest) ↔ (flawed ≡ true)
of_request None flawed is = (λ none. is, λ so. refl)
of_request (Some r) flawed is = (λ none. absurd (let never : Ok r ≡ Err bad.NotARequest = none in cc), λ so. absurd (let never : true ≡ false = sym so ∙ is in cc))

of_value : (value : Option Data) → (request_of value ≡ Err bad.NotARequest) ↔ IsSome (option_and_then flaw_at value)
of_value None = (λ none. absurd (cc), λ so. absurd (cc))
of_value (Some d) = of_request (request_at d) (is_some (flaw_at d)) (flawed d)

pub flawed_line : (line : List ℕ) → (request_in line ≡ Err bad.NotARequest) ↔ IsSome (flaw_in line)
unfolding request_in
flawed_line line = of_value (value_of line)
