use Rattle.std.proofs.Common.{◌≡◌, ◌∙◌, ℕ, List, [], true, ap, get_or, map, drop, subst, sym, ◌+◌}
use Rattle.std.specs.Borrow.{Bor}
use Rattle.matchit.specs.Route.{parse_route}
use Rattle.http_requests.specs.Table.{Routes, fits, with_route}
use Rattle.http_requests.specs.declared.form.Form.{Form}
use Rattle.http_requests.specs.declared.form.Form.TheVariants.{OfUsers}
use Rattle.std.proofs.lemmas.Result.{err_from_is_err_and}
use Rattle.http_requests.proofs.Inserts.{fits_here, inserted, more, refused}
use Rattle.http_requests.proofs.router.insert_all.Goals as goal

abbrev blank : Bor (List ℕ) × Form
blank = (record { ref_ptr = (0, 0); now = [] }, OfUsers)

pub loop-text-preserved : goal.loop-text-preserved
loop-text-preserved c =
    let i = c.loop-text.text-index in
    let xs = c.args.routes.now in
    let here = fits_here c.loop-text.router xs i blank c.loop-text-test.true c.loop-text.invariant.1 in
    let is : c.insert.new.self ≡ with_route c.loop-text.router ((get_or xs i blank).0.now, (get_or xs i blank).1) = inserted (parse_route (get_or xs i blank).0.now) (get_or xs i blank).1 _ _ _ c.in_ok-insert.ensures in (
      is ∙ ap (λ (r : Routes). with_route r ((get_or xs i blank).0.now, (get_or xs i blank).1)) c.loop-text.invariant.0 ∙ more c.args.router.now xs i blank c.loop-text-test.true,
      subst (λ (r : Routes). fits r (map (λ e. (e.0.now, e.1)) (drop (i + 1) xs)) ≡ true) (sym is) here.1,
    )

pub returns-in_err-insert-clause-err : goal.returns-in_err-insert-clause-err
returns-in_err-insert-clause-err c =
    let i = c.loop-text.text-index in
    let xs = c.args.routes.now in
    let here = fits_here c.loop-text.router xs i blank c.loop-text-test.true c.loop-text.invariant.1 in
    let p = err_from_is_err_and c.from_residual.result c.from_residual.ensures.1 in
    let is = refused (parse_route (get_or xs i blank).0.now) (get_or xs i blank).1 _ _ _ c.in_err-insert.ensures here.0 in
    rw p.1 (p.2 ∙ is)
