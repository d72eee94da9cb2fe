use Rattle.std.proofs.Common.{[], Option, Some, codes, refl, sym}
use Rattle.std.proofs.lemmas.Result.{err_from_is_err_and}
use Rattle.json_tree.specs.View.{view}
use Rattle.seccomp_doc.specs.Parts.{FilterPartsValue}
use Rattle.profile_text.specs.declared.document.Found.{Found}
use Rattle.profile_text.specs.declared.sets.Sets.{Sets}
use Rattle.profile_text.specs.Document.{caps_faults, document_rows}
use Rattle.profile_text.specs.FilterShape.{seccomp_faults}
use Rattle.profile_text.specs.Parts.{found_with}
use Rattle.profile_text.proofs.NamedMember.{refused_at_key, taken_at_key}
use Rattle.profile_text.proofs.document.FoundFromMembers.take_member.Goals as goal

pub returns-in_err-sets : goal.returns-in_err-sets
returns-in_err-sets c =
    let p = err_from_is_err_and c.from_residual.result c.from_residual.ensures.1 in
    rw (p.1, p.2) (refused_at_key document_rows ([]) c.args.name.now (codes "capabilities") (view c.args.value.now) (caps_faults) _ _ _ (sym c.if-eq.ensures) refl c.in_err-sets.ensures)

pub returns-in_ok-sets : goal.returns-in_ok-sets
returns-in_ok-sets c =
    let d = view c.args.value.now in
    let s : Found = c.args.self.now in
    let make : Sets → Found = λ v. record { sets = Some v; filter = s.filter } in
    taken_at_key document_rows ([]) c.args.name.now (codes "capabilities") d (caps_faults) (λ name. found_with name d s) make _ _ (sym c.if-eq.ensures) refl refl c.in_ok-sets.ensures

pub returns-in_err-filter : goal.returns-in_err-filter
returns-in_err-filter c =
    let p = err_from_is_err_and c.from_residual-in_err-filter.result c.from_residual-in_err-filter.ensures.1 in
    rw (p.1, p.2) (refused_at_key document_rows ([]) c.args.name.now (codes "seccomp") (view c.args.value.now) (seccomp_faults) _ _ _ (sym c.if-eq-2.ensures) refl c.in_err-filter.ensures)

pub returns-in_ok-filter : goal.returns-in_ok-filter
returns-in_ok-filter c =
    let d = view c.args.value.now in
    let s : Found = c.args.self.now in
    let make : Option FilterPartsValue → Found = λ v. record { sets = s.sets; filter = v } in
    taken_at_key document_rows ([]) c.args.name.now (codes "seccomp") d (seccomp_faults) (λ name. found_with name d s) make _ _ (sym c.if-eq-2.ensures) refl refl c.in_ok-filter.ensures
