use Rattle.std.proofs.Common.{ℕ, List, Option, Some, codes, refl, sym}
use Rattle.std.proofs.lemmas.Result.{err_from_is_err_and}
use Rattle.json_tree.specs.View.{view}
use Rattle.seccomp_doc.specs.declared.action.ActionWord.{ActionWord}
use Rattle.seccomp_doc.specs.declared.parts.ArgParts.{ArgParts}
use Rattle.profile_text.specs.FilterFound.{EntryMembers, entry_found_with, entry_seen}
use Rattle.profile_text.specs.FilterShape.{action_faults, arg_faults, entry_rows, number_faults, text_faults}
use Rattle.profile_text.specs.Place.{path_of}
use Rattle.profile_text.specs.Shape.{list_faults, optional_faults}
use Rattle.profile_text.specs.declared.place.Place.TheVariants.{Entry}
use Rattle.profile_text.proofs.NamedMember.{refused_at_key, refused_at_name, taken_at_key, taken_at_name}
use Rattle.profile_text.proofs.entry.FoundEntryFromMembers.take_member.Goals as goal

pub returns-in_err-word : goal.returns-in_err-word
returns-in_err-word c =
    let p = err_from_is_err_and c.from_residual.result c.from_residual.ensures.1 in
    rw (p.1, p.2) (refused_at_name entry_rows (path_of (Entry c.args.entry)) c.args.name.now (codes "action") (view c.args.value.now) (action_faults) _ _ _ (sym c.if-eq.ensures) refl c.in_err-word.ensures)

pub returns-in_ok-word : goal.returns-in_ok-word
returns-in_ok-word c =
    let d = view c.args.value.now in
    let s : EntryMembers = entry_seen c.args.self.now in
    let make : ActionWord → EntryMembers = λ v. record { word = Some v; args = s.args; errno = s.errno; names = s.names } in
    taken_at_name entry_rows (path_of (Entry c.args.entry)) c.args.name.now (codes "action") d (action_faults) (λ name. entry_found_with name d s) make _ _ (sym c.if-eq.ensures) refl refl c.in_ok-word.ensures

pub returns-in_err-args : goal.returns-in_err-args
returns-in_err-args c =
    let p = err_from_is_err_and c.from_residual-in_err-args.result c.from_residual-in_err-args.ensures.1 in
    rw (p.1, p.2) (refused_at_key entry_rows (path_of (Entry c.args.entry)) c.args.name.now (codes "args") (view c.args.value.now) (optional_faults (list_faults arg_faults)) _ _ _ (sym c.if-eq-2.ensures) refl c.in_err-args.ensures)

pub returns-in_ok-args : goal.returns-in_ok-args
returns-in_ok-args c =
    let d = view c.args.value.now in
    let s : EntryMembers = entry_seen c.args.self.now in
    let make : List ArgParts → EntryMembers = λ v. record { word = s.word; args = v; errno = s.errno; names = s.names } in
    taken_at_key entry_rows (path_of (Entry c.args.entry)) c.args.name.now (codes "args") d (optional_faults (list_faults arg_faults)) (λ name. entry_found_with name d s) make _ _ (sym c.if-eq-2.ensures) refl refl c.in_ok-args.ensures

pub returns-in_err-errno : goal.returns-in_err-errno
returns-in_err-errno c =
    let p = err_from_is_err_and c.from_residual-in_err-errno.result c.from_residual-in_err-errno.ensures.1 in
    rw (p.1, p.2) (refused_at_name entry_rows (path_of (Entry c.args.entry)) c.args.name.now (codes "errnoRet") (view c.args.value.now) (optional_faults number_faults) _ _ _ (sym c.if-eq-3.ensures) refl c.in_err-errno.ensures)

pub returns-in_ok-errno : goal.returns-in_ok-errno
returns-in_ok-errno c =
    let d = view c.args.value.now in
    let s : EntryMembers = entry_seen c.args.self.now in
    let make : Option ℕ → EntryMembers = λ v. record { word = s.word; args = s.args; errno = v; names = s.names } in
    taken_at_name entry_rows (path_of (Entry c.args.entry)) c.args.name.now (codes "errnoRet") d (optional_faults number_faults) (λ name. entry_found_with name d s) make _ _ (sym c.if-eq-3.ensures) refl refl c.in_ok-errno.ensures

pub returns-in_err-names : goal.returns-in_err-names
returns-in_err-names c =
    let p = err_from_is_err_and c.from_residual-in_err-names.result c.from_residual-in_err-names.ensures.1 in
    rw (p.1, p.2) (refused_at_name entry_rows (path_of (Entry c.args.entry)) c.args.name.now (codes "names") (view c.args.value.now) (list_faults text_faults) _ _ _ (sym c.if-eq-4.ensures) refl c.in_err-names.ensures)

pub returns-in_ok-names : goal.returns-in_ok-names
returns-in_ok-names c =
    let d = view c.args.value.now in
    let s : EntryMembers = entry_seen c.args.self.now in
    let make : List (List ℕ) → EntryMembers = λ v. record { word = s.word; args = s.args; errno = s.errno; names = Some v } in
    taken_at_name entry_rows (path_of (Entry c.args.entry)) c.args.name.now (codes "names") d (list_faults text_faults) (λ name. entry_found_with name d s) make _ _ (sym c.if-eq-4.ensures) refl refl c.in_ok-names.ensures
