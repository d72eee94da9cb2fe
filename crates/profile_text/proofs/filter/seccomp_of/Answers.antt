use Rattle.std.proofs.Common.{◌≡◌, ◌∙◌, Some, Ok, codes, refl, ap}
use Rattle.std.proofs.lemmas.Result.{err_from_is_err_and}
use Rattle.json_tree.specs.View.{view, members_view}
use Rattle.json_tree.proofs.Views.{view-Object}
use Rattle.profile_text.specs.FilterParts.{filter_at, seccomp_in}
use Rattle.profile_text.specs.FilterShape.{seccomp_faults, seccomp_rows, table_faults}
use Rattle.profile_text.specs.Reading.{unless_faulty}
use Rattle.profile_text.specs.Shape.{object_faults, optional_faults}
use Rattle.profile_text.proofs.GivesFacts.{gives_alone, ok_parts}
use Rattle.profile_text.proofs.filter.seccomp_of.Goals as goal

pub returns-in_err-parts-in-Object : goal.returns-in_err-parts-in-Object
unfolding seccomp_in table_faults optional_faults
returns-in_err-parts-in-Object c =
    let p = err_from_is_err_and c.from_residual.result c.from_residual.ensures.1 in
    let ms = members_view c.in-Object.members.now in
    let told = c.in_err-parts-in-Object.ensures in
    rw (p.1, p.2, c.in-Object.is, view-Object c.in-Object.members) (gives_alone _ (object_faults seccomp_rows (codes "/seccomp") ms) _ (Some (filter_at ms)) told)

pub returns-in_ok-parts-in-Object : goal.returns-in_ok-parts-in-Object
unfolding seccomp_in table_faults optional_faults
returns-in_ok-parts-in-Object c =
    let path = codes "/seccomp" in
    let ms = members_view c.in-Object.members.now in
    let told = c.in_ok-parts-in-Object.ensures in
    let parts = ok_parts (object_faults seccomp_rows path ms) (filter_at ms) _ told in
    let read : unless_faulty (object_faults seccomp_rows path ms) (Some (filter_at ms)) ≡ Ok (Some c.in_ok-parts-in-Object.parts) = rw (parts.0, parts.1) refl in
    ap (λ d. unless_faulty (seccomp_faults path d) (seccomp_in d)) (ap view c.in-Object.is ∙ view-Object c.in-Object.members) ∙ read
