use Rattle.std.proofs.Common.{ℕ, Some, codes, refl, sym}
use Rattle.std.proofs.lemmas.Result.{err_from_is_err_and}
use Rattle.json_tree.specs.View.{view}
use Rattle.seccomp_doc.specs.declared.compare.Op.{Op}
use Rattle.profile_text.specs.declared.argument.FoundArg.{FoundArg}
use Rattle.profile_text.specs.FilterFound.{arg_found_with}
use Rattle.profile_text.specs.FilterShape.{arg_rows, number_faults, op_faults}
use Rattle.profile_text.specs.Place.{path_of}
use Rattle.profile_text.specs.Shape.{optional_faults}
use Rattle.profile_text.proofs.NamedMember.{refused_at_name, taken_at_name}
use Rattle.profile_text.proofs.argument.FoundArgFromMembers.take_member.Goals as goal

pub returns-in_err-index : goal.returns-in_err-index
returns-in_err-index c =
    let p = err_from_is_err_and c.from_residual.result c.from_residual.ensures.1 in
    rw (p.1, p.2) (refused_at_name arg_rows (path_of c.args.place) c.args.name.now (codes "index") (view c.args.value.now) (number_faults) _ _ _ (sym c.if-eq.ensures) refl c.in_err-index.ensures)

pub returns-in_ok-index : goal.returns-in_ok-index
returns-in_ok-index c =
    let d = view c.args.value.now in
    let s : FoundArg = c.args.self.now in
    let make : ℕ → FoundArg = λ v. record { index = Some v; op = s.op; value = s.value; value_two = s.value_two } in
    taken_at_name arg_rows (path_of c.args.place) c.args.name.now (codes "index") d (number_faults) (λ name. arg_found_with name d s) make _ _ (sym c.if-eq.ensures) refl refl c.in_ok-index.ensures

pub returns-in_err-op : goal.returns-in_err-op
returns-in_err-op c =
    let p = err_from_is_err_and c.from_residual-in_err-op.result c.from_residual-in_err-op.ensures.1 in
    rw (p.1, p.2) (refused_at_name arg_rows (path_of c.args.place) c.args.name.now (codes "op") (view c.args.value.now) (op_faults) _ _ _ (sym c.if-eq-2.ensures) refl c.in_err-op.ensures)

pub returns-in_ok-op : goal.returns-in_ok-op
returns-in_ok-op c =
    let d = view c.args.value.now in
    let s : FoundArg = c.args.self.now in
    let make : Op → FoundArg = λ v. record { index = s.index; op = Some v; value = s.value; value_two = s.value_two } in
    taken_at_name arg_rows (path_of c.args.place) c.args.name.now (codes "op") d (op_faults) (λ name. arg_found_with name d s) make _ _ (sym c.if-eq-2.ensures) refl refl c.in_ok-op.ensures

pub returns-in_err-number : goal.returns-in_err-number
returns-in_err-number c =
    let p = err_from_is_err_and c.from_residual-in_err-number.result c.from_residual-in_err-number.ensures.1 in
    rw (p.1, p.2) (refused_at_name arg_rows (path_of c.args.place) c.args.name.now (codes "value") (view c.args.value.now) (number_faults) _ _ _ (sym c.if-eq-3.ensures) refl c.in_err-number.ensures)

pub returns-in_ok-number : goal.returns-in_ok-number
returns-in_ok-number c =
    let d = view c.args.value.now in
    let s : FoundArg = c.args.self.now in
    let make : ℕ → FoundArg = λ v. record { index = s.index; op = s.op; value = Some v; value_two = s.value_two } in
    taken_at_name arg_rows (path_of c.args.place) c.args.name.now (codes "value") d (number_faults) (λ name. arg_found_with name d s) make _ _ (sym c.if-eq-3.ensures) refl refl c.in_ok-number.ensures

pub returns-in_err-value_two : goal.returns-in_err-value_two
returns-in_err-value_two c =
    let p = err_from_is_err_and c.from_residual-in_err-value_two.result c.from_residual-in_err-value_two.ensures.1 in
    rw (p.1, p.2) (refused_at_name arg_rows (path_of c.args.place) c.args.name.now (codes "valueTwo") (view c.args.value.now) (optional_faults number_faults) _ _ _ (sym c.if-eq-4.ensures) refl c.in_err-value_two.ensures)
