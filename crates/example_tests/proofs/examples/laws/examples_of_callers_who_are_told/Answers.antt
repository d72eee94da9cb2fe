use Rattle.std.proofs.Common.{◌≡◌, ◌∙◌, ℕ, List, [], ◌∷◌, true, false, Option, Some, None, codes, refl, sym, ap, subst, arith}
use Rattle.std.specs.Prelude.{bytes_eq}
use Rattle.profile_text.specs.Digest.{digest_of}
use Rattle.review_policy.specs.declared.answer.Reply.{Reply}
use Rattle.review_policy.specs.declared.answer.Reply.TheVariants as reply
use Rattle.review_policy.specs.declared.ask.Ask.TheVariants as ask
use Rattle.review_policy.specs.declared.ask.Request.{Request}
use Rattle.office_words.specs.declared.row.UserRow.{UserRow}
use Rattle.office_policy.specs.Asked.{TellsCaller}
use Rattle.office_policy.specs.Examples.{ann, blue, desk, sue}
use Rattle.office_policy.specs.LawExamples.{sue_shows}
use Rattle.office_policy.specs.Users.{user_of}
use Rattle.example_tests.proofs.Duties.{false_is_true, no_digest_of, same}
use Rattle.example_tests.proofs.examples.laws.examples_of_callers_who_are_told.Goals as goal

abbrev asks_me : List ℕ → Request
asks_me token = record { token = token; ask = ask.Me }

-- the row of the user whom an answer names
row_of : (token name team : List ℕ) (roles : ℕ) (row : UserRow) → user_of (sue_shows 8 token) name ≡ Some row → (tells : TellsCaller (sue_shows 8 token) (asks_me token) (reply.Me name team roles))
    → row ≡ tells.user
row_of token name team roles row of tells =
    let k : reply.Me name team roles ≡ reply.Me tells.user.name tells.user.team tells.user.roles = tells.is_told in
    let named : name ≡ tells.user.name = cc in
    same row tells.user (sym of ∙ ap (user_of (sue_shows 8 token)) named ∙ tells.enrolled)

abbrev sue_now : List ℕ → UserRow
sue_now token = record { name = sue; team = desk; roles = 8; digest = digest_of token }

pub returns-clause-own : goal.returns-clause-own
returns-clause-own c = λ token. record { user = sue_now token; enrolled = refl; shows = refl; is_told = refl }

pub returns-clause-former_roles : goal.returns-clause-former_roles
returns-clause-former_roles c = λ token tells.
    let k : reply.Me sue desk 12 ≡ reply.Me tells.user.name tells.user.team tells.user.roles = tells.is_told in
    let roles : 12 ≡ tells.user.roles = cc in
    let now : 8 ≡ tells.user.roles = ap (λ (u : UserRow). u.roles) (row_of token sue desk 12 (sue_now token) refl tells) in
    omega (arith, roles, now)

pub returns-clause-other_team : goal.returns-clause-other_team
returns-clause-other_team c = λ token tells.
    let k : reply.Me sue blue 8 ≡ reply.Me tells.user.name tells.user.team tells.user.roles = tells.is_told in
    let team : blue ≡ tells.user.team = cc in
    let now : desk ≡ tells.user.team = ap (λ (u : UserRow). u.team) (row_of token sue blue 8 (sue_now token) refl tells) in
    false_is_true (ap (bytes_eq desk) (team ∙ sym now))

pub returns-clause-other_user : goal.returns-clause-other_user
returns-clause-other_user c = λ token tells.
    let row : UserRow = record { name = ann; team = blue; roles = 2; digest = 1 ∷ [] } in
    no_digest_of 1 token (ap (λ (u : UserRow). u.digest) (row_of token ann blue 2 row refl tells) ∙ tells.shows)

pub returns-clause-nobody : goal.returns-clause-nobody
returns-clause-nobody c = λ token tells.
    let k : reply.Me (codes "nobody") desk 8 ≡ reply.Me tells.user.name tells.user.team tells.user.roles = tells.is_told in
    let named : codes "nobody" ≡ tells.user.name = cc in
    let none : ◌≡◌ {A = Option UserRow} None (Some tells.user) = ap (user_of (sue_shows 8 token)) named ∙ tells.enrolled in
    cc

pub returns-clause-nothing : goal.returns-clause-nothing
returns-clause-nothing c = λ token tells. let k : reply.Nothing ≡ reply.Me tells.user.name tells.user.team tells.user.roles = tells.is_told in cc
