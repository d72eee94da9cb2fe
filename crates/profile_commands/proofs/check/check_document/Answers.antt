use Rattle.std.proofs.Common.{◌∙◌, [], ◌∷◌, ◌++◌, ap}
use Rattle.profile_commands.proofs.check.check_document.Goals as goal

pub returns : goal.returns
returns c = (
  c.in_ok-document.document.profile,
  c.in_ok-document.ensures.document,
  c.in_ok-text.ensures ∙ ap (λ text. text ++ 10 ∷ []) c.in_ok-document.ensures.text,
)
