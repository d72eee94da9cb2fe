use Rattle.std.proofs.Common.{◌∙◌, arith}
use Rattle.http_requests.proofs.RouterLaw.{text_law}
use Rattle.http_requests.proofs.router.OfficeRouter.form_of.Goals as goal

pub returns : goal.returns
returns c = c.look_up.ensures ∙ text_law c.args.path.now (λ k. omega (arith, c.type_inv.path k))
