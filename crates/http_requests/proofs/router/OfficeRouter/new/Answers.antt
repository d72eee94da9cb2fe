use Rattle.std.proofs.Common.{◌≡◌, ◌∙◌, ap, fold, refl}
use Rattle.http_requests.specs.Table.{Routes, fits, office_rows, table, with_route}
use Rattle.matchit.proofs.OnLiterals.{matchit_on_literals}
use Rattle.http_requests.proofs.router.OfficeRouter.new.Goals as goal

pub insert_all-requires : goal.insert_all-requires
unfolding matchit_on_literals fits
insert_all-requires c = rw c.new-router.ensures refl

pub invariant_of-result : goal.invariant_of-result
unfolding office_rows
invariant_of-result c =
    let made : c.insert_all.new.router ≡ fold with_route c.new-router.result table = c.in-Ok.ensures.ok in
    record { routes = made ∙ ap (λ (r : Routes). fold with_route r table) c.new-router.ensures }
