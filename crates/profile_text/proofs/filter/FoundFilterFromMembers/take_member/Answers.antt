use Rattle.std.proofs.Common.{ℕ, List, Option, Some, codes, refl, sym}
use Rattle.std.proofs.lemmas.Result.{err_from_is_err_and}
use Rattle.json_tree.specs.View.{view}
use Rattle.seccomp_doc.specs.declared.action.ActionWord.{ActionWord}
use Rattle.seccomp_doc.specs.Parts.{EntryPartsValue}
use Rattle.seccomp_doc.specs.Word.{is_arch, is_flag}
use Rattle.profile_text.specs.FilterFound.{FilterMembers, filter_found_with, filter_seen}
use Rattle.profile_text.specs.FilterShape.{action_faults, entry_faults, number_faults, seccomp_rows}
use Rattle.profile_text.specs.Shape.{list_faults, optional_faults, word_faults}
use Rattle.profile_text.proofs.NamedMember.{refused_at_key, refused_at_name, taken_at_key, taken_at_name}
use Rattle.profile_text.proofs.filter.FoundFilterFromMembers.take_member.Goals as goal

pub returns-in_err-architectures : goal.returns-in_err-architectures
returns-in_err-architectures c =
    let p = err_from_is_err_and c.from_residual.result c.from_residual.ensures.1 in
    rw (p.1, p.2) (refused_at_name seccomp_rows (codes "/seccomp") c.args.name.now (codes "architectures") (view c.args.value.now) (optional_faults (list_faults (word_faults is_arch))) _ _ _ (sym c.if-eq.ensures) refl c.in_err-architectures.ensures)

pub returns-in_ok-architectures : goal.returns-in_ok-architectures
returns-in_ok-architectures c =
    let d = view c.args.value.now in
    let s : FilterMembers = filter_seen c.args.self.now in
    let make : List (List ℕ) → FilterMembers = λ v. record { architectures = v; default = s.default; default_errno = s.default_errno; flags = s.flags; entries = s.entries } in
    taken_at_name seccomp_rows (codes "/seccomp") c.args.name.now (codes "architectures") d (optional_faults (list_faults (word_faults is_arch))) (λ name. filter_found_with name d s) make _ _ (sym c.if-eq.ensures) refl refl c.in_ok-architectures.ensures

pub returns-in_err-default : goal.returns-in_err-default
returns-in_err-default c =
    let p = err_from_is_err_and c.from_residual-in_err-default.result c.from_residual-in_err-default.ensures.1 in
    rw (p.1, p.2) (refused_at_name seccomp_rows (codes "/seccomp") c.args.name.now (codes "defaultAction") (view c.args.value.now) (action_faults) _ _ _ (sym c.if-eq-2.ensures) refl c.in_err-default.ensures)

pub returns-in_ok-default : goal.returns-in_ok-default
returns-in_ok-default c =
    let d = view c.args.value.now in
    let s : FilterMembers = filter_seen c.args.self.now in
    let make : ActionWord → FilterMembers = λ v. record { architectures = s.architectures; default = Some v; default_errno = s.default_errno; flags = s.flags; entries = s.entries } in
    taken_at_name seccomp_rows (codes "/seccomp") c.args.name.now (codes "defaultAction") d (action_faults) (λ name. filter_found_with name d s) make _ _ (sym c.if-eq-2.ensures) refl refl c.in_ok-default.ensures

pub returns-in_err-default_errno : goal.returns-in_err-default_errno
returns-in_err-default_errno c =
    let p = err_from_is_err_and c.from_residual-in_err-default_errno.result c.from_residual-in_err-default_errno.ensures.1 in
    rw (p.1, p.2) (refused_at_name seccomp_rows (codes "/seccomp") c.args.name.now (codes "defaultErrnoRet") (view c.args.value.now) (optional_faults number_faults) _ _ _ (sym c.if-eq-3.ensures) refl c.in_err-default_errno.ensures)

pub returns-in_ok-default_errno : goal.returns-in_ok-default_errno
returns-in_ok-default_errno c =
    let d = view c.args.value.now in
    let s : FilterMembers = filter_seen c.args.self.now in
    let make : Option ℕ → FilterMembers = λ v. record { architectures = s.architectures; default = s.default; default_errno = v; flags = s.flags; entries = s.entries } in
    taken_at_name seccomp_rows (codes "/seccomp") c.args.name.now (codes "defaultErrnoRet") d (optional_faults number_faults) (λ name. filter_found_with name d s) make _ _ (sym c.if-eq-3.ensures) refl refl c.in_ok-default_errno.ensures

pub returns-in_err-flags : goal.returns-in_err-flags
returns-in_err-flags c =
    let p = err_from_is_err_and c.from_residual-in_err-flags.result c.from_residual-in_err-flags.ensures.1 in
    rw (p.1, p.2) (refused_at_name seccomp_rows (codes "/seccomp") c.args.name.now (codes "flags") (view c.args.value.now) (optional_faults (list_faults (word_faults is_flag))) _ _ _ (sym c.if-eq-4.ensures) refl c.in_err-flags.ensures)

pub returns-in_ok-flags : goal.returns-in_ok-flags
returns-in_ok-flags c =
    let d = view c.args.value.now in
    let s : FilterMembers = filter_seen c.args.self.now in
    let make : List (List ℕ) → FilterMembers = λ v. record { architectures = s.architectures; default = s.default; default_errno = s.default_errno; flags = v; entries = s.entries } in
    taken_at_name seccomp_rows (codes "/seccomp") c.args.name.now (codes "flags") d (optional_faults (list_faults (word_faults is_flag))) (λ name. filter_found_with name d s) make _ _ (sym c.if-eq-4.ensures) refl refl c.in_ok-flags.ensures

pub returns-in_err-entries : goal.returns-in_err-entries
returns-in_err-entries c =
    let p = err_from_is_err_and c.from_residual-in_err-entries.result c.from_residual-in_err-entries.ensures.1 in
    rw (p.1, p.2) (refused_at_key seccomp_rows (codes "/seccomp") c.args.name.now (codes "syscalls") (view c.args.value.now) (optional_faults (list_faults entry_faults)) _ _ _ (sym c.if-eq-7.ensures) refl c.in_err-entries.ensures)

pub returns-in_ok-entries : goal.returns-in_ok-entries
returns-in_ok-entries c =
    let d = view c.args.value.now in
    let s : FilterMembers = filter_seen c.args.self.now in
    let make : List EntryPartsValue → FilterMembers = λ v. record { architectures = s.architectures; default = s.default; default_errno = s.default_errno; flags = s.flags; entries = v } in
    taken_at_key seccomp_rows (codes "/seccomp") c.args.name.now (codes "syscalls") d (optional_faults (list_faults entry_faults)) (λ name. filter_found_with name d s) make _ _ (sym c.if-eq-7.ensures) refl refl c.in_ok-entries.ensures
