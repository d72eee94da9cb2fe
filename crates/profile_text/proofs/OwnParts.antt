-- The parts that the canonical text of a filter names: they have no fault, and make the filter.
use Rattle.std.proofs.Common.{◌≡◌, ◌∙◌, ℕ, ◌^◌, ◌<◌, ◌≤◌, ◌==◌, List, [], ◌∷◌, ◌++◌, All, Contains, map, length, Bool, true, false, cond, not, ◌&&◌, None, bytes_eq, refl, sym, ap, subst, arith, append_assoc, le-ltb, nat_lt}
use Rattle.std.specs.List.{list_any, flat_map}
use Rattle.std.proofs.lemmas.Bool.{ne_eqb}
use Rattle.std.proofs.lemmas.List.{length-map}
use Rattle.std.proofs.lemmas.List.Elements.{All-head, All-tail, Contains-append_left, Contains-append_right, Contains-push}
use Rattle.std.proofs.lemmas.Slice.Eq.{bytes_eq-Decides}
use Rattle.seccomp_doc.specs.declared.action.Action.{Action}
use Rattle.seccomp_doc.specs.declared.action.Action.TheVariants.{KillProcess, KillThread, Trap, Errno, Trace, Log, Allow}
use Rattle.seccomp_doc.specs.declared.compare.Compare.{Compare}
use Rattle.seccomp_doc.specs.declared.parts.ArgParts.{ArgParts}
use Rattle.seccomp_doc.specs.Action.{errno_of, same_action, word_of}
use Rattle.seccomp_doc.specs.Checks.{all_name_checks, contradicts, entry_checks, errno_checks, fault_of, first_fault, has_too_many, is_large, is_no_call_name, name_check, name_checks}
use Rattle.seccomp_doc.specs.Compare.{is_masked}
use Rattle.seccomp_doc.specs.Filter.{EntryValue, FilterValue}
use Rattle.seccomp_doc.specs.Lawful.{HasOneAction, IsLawfulFilter, IsLawfulAction, IsLawfulCompare, IsLawfulEntry}
use Rattle.seccomp_doc.specs.Meaning.{has_name}
use Rattle.seccomp_doc.specs.Parts.{EntryPartsValue, FilterPartsValue, action_of, compare_of, entry_of, filter_of}
use Rattle.seccomp_doc.specs.Word.{is_call_name}
use Rattle.seccomp_doc.proofs.FaultFacts.{first_fault-after}
use Rattle.seccomp_doc.proofs.FilterFacts.{fault_of-names}
use Rattle.seccomp_doc.proofs.Lists.{list_any_here}
use Rattle.seccomp_doc.proofs.SameAction.{same_action_itself}

abbrev pub own_arg : Compare → ArgParts
own_arg c = record { index = c.index; op = c.op; value = c.value; value_two = c.value_two }

abbrev pub own_entry : EntryValue → EntryPartsValue
own_entry e = record { names = e.names; word = word_of e.action; errno = errno_of e.action; args = map own_arg e.args }

abbrev pub own_parts : FilterValue → FilterPartsValue
own_parts f = record {
  default = word_of f.default;
  default_errno = errno_of f.default;
  architectures = f.architectures;
  flags = f.flags;
  entries = map own_entry f.entries;
}

-- ---- they make the filter

same_action_of : (a : Action) → action_of (word_of a) (errno_of a) ≡ a
same_action_of KillProcess = refl
same_action_of KillThread = refl
same_action_of Trap = refl
same_action_of (Errno n) = refl
same_action_of (Trace n) = refl
same_action_of Log = refl
same_action_of Allow = refl

same_two : (b : Bool) (two : ℕ) → (b ≡ false → two ≡ 0) → cond b two 0 ≡ two
same_two true two h = refl
same_two false two h = sym (h refl)

same_compare : (c : Compare) → (is_masked c.op ≡ false → c.value_two ≡ 0) → compare_of (own_arg c) ≡ c
same_compare c h =
    let with_two : ℕ → Compare = λ two. record { index = c.index; op = c.op; value = c.value; value_two = two } in
    ap with_two (same_two (is_masked c.op) c.value_two h)

same_args : (cs : List Compare) → All IsLawfulCompare cs → map compare_of (map own_arg cs) ≡ cs
same_args [] all = refl
same_args (c ∷ cs) all = rw (same_compare c (All-head IsLawfulCompare c cs all).unused, same_args cs (All-tail IsLawfulCompare c cs all)) refl

same_entry : (e : EntryValue) → IsLawfulEntry e → entry_of (own_entry e) ≡ e
same_entry e h =
    let with_action : Action → EntryValue = λ a. record { names = e.names; action = a; args = map compare_of (map own_arg e.args) } in
    let with_args : List Compare → EntryValue = λ cs. record { names = e.names; action = e.action; args = cs } in
    ap with_action (same_action_of e.action) ∙ ap with_args (same_args e.args h.args)

same_entries : (es : List EntryValue) → All IsLawfulEntry es → map entry_of (map own_entry es) ≡ es
same_entries [] all = refl
same_entries (e ∷ es) all = rw (same_entry e (All-head IsLawfulEntry e es all), same_entries es (All-tail IsLawfulEntry e es all)) refl

pub own_make : (f : FilterValue) → IsLawfulFilter f → filter_of (own_parts f) ≡ f
own_make f h =
    let with_default : Action → FilterValue = λ a. record { default = a; architectures = f.architectures; flags = f.flags; entries = map entry_of (map own_entry f.entries) } in
    let with_entries : List EntryValue → FilterValue = λ es. record { default = f.default; architectures = f.architectures; flags = f.flags; entries = es } in
    ap with_default (same_action_of f.default) ∙ ap with_entries (same_entries f.entries h.entries)

-- ---- they have no fault

small_errno : (n : ℕ) → n < 2 ^ 16 → nat_lt 65535 n ≡ false
small_errno n h = le-ltb 65535 n (omega arith)

errno_passed : (a : Action) → IsLawfulAction a → first_fault (errno_checks (word_of a) (errno_of a)) ≡ None
errno_passed KillProcess h = refl
errno_passed KillThread h = refl
errno_passed Trap h = refl
errno_passed (Errno n) h = rw (small_errno n (h n refl)) refl
errno_passed (Trace n) h = rw (small_errno n (h n refl)) refl
errno_passed Log h = refl
errno_passed Allow h = refl

all_call_names : (names : List (List ℕ)) → All (λ name. is_call_name name ≡ true) names → list_any is_no_call_name names ≡ false
all_call_names [] all = refl
all_call_names (name ∷ names) all =
    rw (All-head (λ n. is_call_name n ≡ true) name names all, all_call_names names (All-tail (λ n. is_call_name n ≡ true) name names all)) refl

low_indexes : (cs : List Compare) → All IsLawfulCompare cs → list_any (λ a. nat_lt 5 a.index) (map own_arg cs) ≡ false
low_indexes [] all = refl
low_indexes (c ∷ cs) all =
    let low : c.index < 6 = (All-head IsLawfulCompare c cs all).index in
    rw (le-ltb 5 c.index (omega arith), low_indexes cs (All-tail IsLawfulCompare c cs all)) refl

same_indexes : (cs : List Compare) → map (λ (a : ArgParts). a.index) (map own_arg cs) ≡ map (λ (c : Compare). c.index) cs
same_indexes [] = refl
same_indexes (c ∷ cs) = ap (λ ns. c.index ∷ ns) (same_indexes cs)

entry_passed : (e : EntryValue) → IsLawfulEntry e → first_fault (entry_checks (own_entry e)) ≡ None
entry_passed e h =
    let some : (length e.names == 0) ≡ false = ne_eqb (length e.names) 0 (λ none. let named = h.named in omega arith) in
    rw (some, all_call_names e.names h.names, low_indexes e.args h.args, same_indexes e.args, h.once) (errno_passed e.action h.action)

entries_passed : (es : List EntryValue) → All IsLawfulEntry es → first_fault (flat_map entry_checks (map own_entry es)) ≡ None
entries_passed [] all = refl
entries_passed (e ∷ es) all =
    first_fault-after (entry_checks (own_entry e)) (flat_map entry_checks (map own_entry es)) (entry_passed e (All-head IsLawfulEntry e es all))
    ∙ entries_passed es (All-tail IsLawfulEntry e es all)

contradicts_by : (x : EntryValue) (name : List ℕ) (action : Action) (b : Bool) → (b ≡ true → x.action ≡ action) → (b && not (same_action x.action action)) ≡ false
contradicts_by x name action true h = rw (h refl, same_action_itself action) refl
contradicts_by x name action false h = refl

agreeing : (earlier : List EntryValue) (name : List ℕ) (action : Action) → ((d : EntryValue) → Contains earlier d → has_name name d ≡ true → d.action ≡ action) → list_any (contradicts name action) earlier ≡ false
agreeing [] name action h = refl
agreeing (x ∷ earlier) name action h =
    rw (contradicts_by x name action (has_name name x) (h x (Contains-append_left (x ∷ []) earlier x (Contains-push [] x))))
    (agreeing earlier name action (λ d at. h d (Contains-append_right (x ∷ []) earlier d at)))

names_passed : (earlier : List EntryValue) (e : EntryValue) (done rest : List (List ℕ)) → e.names ≡ done ++ rest → HasOneAction (earlier ++ e ∷ []) → first_fault (map (name_check earlier e.action) rest) ≡ None
names_passed earlier e done [] is one = refl
names_passed earlier e done (name ∷ rest) is one =
    let has : has_name name e ≡ true = rw is (list_any_here (bytes_eq name) done name rest ((bytes_eq-Decides name name).1 refl)) in
    let none : list_any (contradicts name e.action) earlier ≡ false = agreeing earlier name e.action (λ d at has_d. one d e (Contains-append_left earlier (e ∷ []) d at) (Contains-push earlier e) name has_d has) in
    rw none (names_passed earlier e (done ++ name ∷ []) rest (is ∙ sym (append_assoc done (name ∷ []) rest)) one)

fewer : (xs ys : List EntryValue) → HasOneAction (xs ++ ys) → HasOneAction xs
fewer xs ys one d e at_d at_e = one d e (Contains-append_left xs ys d at_d) (Contains-append_left xs ys e at_e)

all_names_passed : (earlier es : List EntryValue) → HasOneAction (earlier ++ es) → first_fault (all_name_checks earlier es) ≡ None
unfolding all_name_checks
all_names_passed earlier [] one = refl
all_names_passed earlier (e ∷ es) one =
    let grouped : HasOneAction ((earlier ++ e ∷ []) ++ es) = subst HasOneAction (sym (append_assoc earlier (e ∷ []) es)) one in
    first_fault-after (name_checks earlier e) (all_name_checks (earlier ++ e ∷ []) es) (names_passed earlier e [] e.names refl (fewer (earlier ++ e ∷ []) es grouped))
    ∙ all_names_passed (earlier ++ e ∷ []) es grouped

none_large : (es : List EntryValue) → All (λ e. length e.names ≤ 1024) es → All (λ e. length e.args ≤ 6) es → list_any is_large (map own_entry es) ≡ false
none_large [] names args = refl
none_large (e ∷ es) names args =
    rw (
      le-ltb 1024 (length e.names) (All-head (λ (x : EntryValue). length x.names ≤ 1024) e es names),
      length-map,
      le-ltb 6 (length e.args) (All-head (λ (x : EntryValue). length x.args ≤ 6) e es args),
    ) (none_large es (All-tail (λ (x : EntryValue). length x.names ≤ 1024) e es names) (All-tail (λ (x : EntryValue). length x.args ≤ 6) e es args))

few : (f : FilterValue) → IsLawfulFilter f → has_too_many (own_parts f) ≡ false
few f h =
    rw (
      none_large f.entries h.few_names h.few_args,
      length-map,
      le-ltb 2048 (length f.entries) h.few_entries,
      le-ltb 64 (length f.architectures) h.few_architectures,
      le-ltb 64 (length f.flags) h.few_flags,
    ) refl

-- the parts of a lawful filter have no fault
pub own_faultless : (f : FilterValue) → IsLawfulFilter f → fault_of (own_parts f) ≡ None
own_faultless f h =
    fault_of-names (own_parts f) (few f h) (errno_passed f.default h.default) (entries_passed f.entries h.entries)
    ∙ ap (λ es. first_fault (all_name_checks [] es)) (same_entries f.entries h.entries)
    ∙ all_names_passed [] f.entries h.one_action
