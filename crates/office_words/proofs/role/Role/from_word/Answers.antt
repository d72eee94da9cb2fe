use Rattle.std.proofs.Common.{◌∙◌, ◌≡◌, Option, subst, sym}
use Rattle.std.specs.Prelude.{IfSome}
use Rattle.office_words.specs.declared.role.Role.{Role}
use Rattle.office_words.specs.WordTables.{role_word}
use Rattle.office_words.proofs.WordFacts.{found_role, known_role}
use Rattle.office_words.proofs.role.Role.from_word.Goals as goal

pub returns-clause-found : goal.returns-clause-found
returns-clause-found c =
    subst (λ (r : Option Role). IfSome r (λ role. role_word role ≡ c.args.text.now)) (sym c.role_named.ensures) (found_role c.args.text.now)

pub returns-clause-known : goal.returns-clause-known
returns-clause-known c = λ role is. c.role_named.ensures ∙ known_role c.args.text.now role is
