-- What the first fault of a filter's parts is, and that a filter without one is lawful.
use Rattle.std.proofs.Common.{◌≡◌, ◌∙◌, ap, refl, sym, subst, ◌≤◌, List, [], ◌∷◌, ◌++◌, Bool, true, false, ◌||◌, Some, None, map, length, All, nat_lt, ltb-false}
use Rattle.std.specs.List.{list_any, flat_map}
use Rattle.std.proofs.lemmas.List.{length-map, map-append}
use Rattle.std.proofs.lemmas.List.Concat.{flat_map-append}
use Rattle.std.proofs.lemmas.List.Elements.{All-nil, All-cons, All-map, All-push}
use Rattle.seccomp_doc.specs.declared.action.Action.{Action}
use Rattle.seccomp_doc.specs.declared.fault.FilterFault.{FilterFault}
use Rattle.seccomp_doc.specs.declared.fault.FilterFault.TheVariants.{TooMany}
use Rattle.seccomp_doc.specs.Filter.{EntryValue, FilterValue}
use Rattle.seccomp_doc.specs.Lawful.{IsLawfulFilter, IsLawfulAction, IsLawfulEntry, HasOneAction}
use Rattle.seccomp_doc.specs.Parts.{EntryPartsValue, FilterPartsValue, action_of, compare_of, entry_of, filter_of}
use Rattle.seccomp_doc.specs.Checks.{Check, all_name_checks, entry_checks, errno_checks, fault_of, first_fault, has_too_many, is_large}
use Rattle.seccomp_doc.proofs.EntryFacts.{both_false}
use Rattle.seccomp_doc.proofs.FaultFacts.{first_fault-after, first_fault-before}

-- ---- the first fault of the whole

abbrev count_checks : FilterPartsValue → List Check
count_checks p = (TooMany, has_too_many p) ∷ []

-- the checks before those of the entries
abbrev head_checks : FilterPartsValue → List Check
head_checks p = count_checks p ++ errno_checks p.default p.default_errno

no_more : (before after : List Check) → first_fault before ≡ None → first_fault after ≡ None → first_fault (before ++ after) ≡ None
no_more before after none more = first_fault-after before after none ∙ more

count_told : (b : Bool) → b ≡ true → first_fault ((TooMany, b) ∷ []) ≡ Some TooMany
count_told true e = refl
count_told false e = cc

count_passed : (b : Bool) → b ≡ false → first_fault ((TooMany, b) ∷ []) ≡ None
count_passed true e = cc
count_passed false e = refl

module _ (p : FilterPartsValue) where
  abbrev entry_part : List Check
  entry_part = flat_map entry_checks p.entries

  abbrev name_part : List Check
  name_part = all_name_checks [] (map entry_of p.entries)

  pub fault_of-count : has_too_many p ≡ true → fault_of p ≡ Some TooMany
  unfolding fault_of
  fault_of-count e =
      first_fault-before (head_checks p ++ entry_part) name_part TooMany
      (first_fault-before (head_checks p) entry_part TooMany
      (first_fault-before (count_checks p) (errno_checks p.default p.default_errno) TooMany (count_told (has_too_many p) e)))

  pub fault_of-default : has_too_many p ≡ false → (fault : FilterFault) → first_fault (errno_checks p.default p.default_errno) ≡ Some fault → fault_of p ≡ Some fault
  unfolding fault_of
  fault_of-default few fault e =
      first_fault-before (head_checks p ++ entry_part) name_part fault
      (first_fault-before (head_checks p) entry_part fault
      (first_fault-after (count_checks p) (errno_checks p.default p.default_errno) (count_passed (has_too_many p) few) ∙ e))

  head_passed : has_too_many p ≡ false → first_fault (errno_checks p.default p.default_errno) ≡ None → first_fault (head_checks p) ≡ None
  head_passed few e = no_more (count_checks p) (errno_checks p.default p.default_errno) (count_passed (has_too_many p) few) e

  pub fault_of-entries : has_too_many p ≡ false → first_fault (errno_checks p.default p.default_errno) ≡ None →
      (fault : FilterFault) → first_fault (flat_map entry_checks p.entries) ≡ Some fault → fault_of p ≡ Some fault
  unfolding fault_of
  fault_of-entries few default fault e =
      first_fault-before (head_checks p ++ entry_part) name_part fault
      (first_fault-after (head_checks p) entry_part (head_passed few default) ∙ e)

  pub fault_of-names : has_too_many p ≡ false → first_fault (errno_checks p.default p.default_errno) ≡ None →
      first_fault (flat_map entry_checks p.entries) ≡ None →
      fault_of p ≡ first_fault (all_name_checks [] (map entry_of p.entries))
  unfolding fault_of
  fault_of-names few default entries =
      first_fault-after (head_checks p ++ entry_part) name_part (no_more (head_checks p) entry_part (head_passed few default) entries)

-- ---- the entries, one after another

pub entry_told : (parts : List EntryPartsValue) (done : List EntryPartsValue) (part : EntryPartsValue) (rest : List EntryPartsValue) (fault : FilterFault) →
    parts ≡ done ++ part ∷ rest → first_fault (flat_map entry_checks done) ≡ None → first_fault (entry_checks part) ≡ Some fault →
    first_fault (flat_map entry_checks parts) ≡ Some fault
entry_told parts done part rest fault all none told =
    ap (λ ps. first_fault (flat_map entry_checks ps)) all
    ∙ ap first_fault (flat_map-append entry_checks done (part ∷ rest))
    ∙ first_fault-after (flat_map entry_checks done) (entry_checks part ++ flat_map entry_checks rest) none
    ∙ first_fault-before (entry_checks part) (flat_map entry_checks rest) fault told

none_left : (cs : List Check) → first_fault cs ≡ None → first_fault (cs ++ []) ≡ None
none_left cs e = first_fault-after cs [] e

pub entry_more : (done : List EntryPartsValue) (part : EntryPartsValue) (entries more : List EntryValue) (entry : EntryValue) →
    entries ≡ map entry_of done → first_fault (flat_map entry_checks done) ≡ None → All IsLawfulEntry entries →
    (first_fault (entry_checks part) ≡ None) × (entry ≡ entry_of part) → IsLawfulEntry entry → more ≡ entries ++ entry ∷ [] →
    (more ≡ map entry_of (done ++ part ∷ [])) × (first_fault (flat_map entry_checks (done ++ part ∷ [])) ≡ None) × All IsLawfulEntry more
entry_more done part entries more entry same none lawful made good pushed = (
  pushed ∙ ap (λ es. es ++ entry ∷ []) same ∙ ap (λ e. map entry_of done ++ e ∷ []) made.1 ∙ sym (map-append entry_of done (part ∷ [])),
  ap first_fault (flat_map-append entry_checks done (part ∷ [])) ∙ no_more (flat_map entry_checks done) (entry_checks part ++ []) none (none_left (entry_checks part) made.0),
  subst (λ es. All IsLawfulEntry es) (sym pushed) (All-push IsLawfulEntry entries entry lawful good),
)

-- ---- a filter without a fault is lawful

few_names : (es : List EntryPartsValue) → list_any is_large es ≡ false → All (λ e. length e.names ≤ 1024) es
few_names [] h = All-nil (λ (e : EntryPartsValue). length e.names ≤ 1024)
few_names (e ∷ es) h =
    let parts = both_false (is_large e) (list_any is_large es) h in
    let sizes = both_false (nat_lt 1024 (length e.names)) (nat_lt 6 (length e.args)) parts.0 in
    All-cons (λ (x : EntryPartsValue). length x.names ≤ 1024) e es (ltb-false 1024 (length e.names) sizes.0) (few_names es parts.1)

few_args : (es : List EntryPartsValue) → list_any is_large es ≡ false → All (λ e. length (map compare_of e.args) ≤ 6) es
few_args [] h = All-nil (λ (e : EntryPartsValue). length (map compare_of e.args) ≤ 6)
few_args (e ∷ es) h =
    let parts = both_false (is_large e) (list_any is_large es) h in
    let sizes = both_false (nat_lt 1024 (length e.names)) (nat_lt 6 (length e.args)) parts.0 in
    All-cons (λ (x : EntryPartsValue). length (map compare_of x.args) ≤ 6) e es (rw length-map (ltb-false 6 (length e.args) sizes.1)) (few_args es parts.1)

pub lawful_filter : (p : FilterPartsValue) (default : Action) (entries : List EntryValue) → has_too_many p ≡ false → IsLawfulAction default →
    entries ≡ map entry_of p.entries → All IsLawfulEntry entries → HasOneAction entries →
    IsLawfulFilter (record { default = default; architectures = p.architectures; flags = p.flags; entries = entries })
lawful_filter p default entries few small same lawful one =
    let counts = both_false (nat_lt 2048 (length p.entries) || nat_lt 64 (length p.architectures) || nat_lt 64 (length p.flags)) (list_any is_large p.entries) few in
    let lists = both_false (nat_lt 2048 (length p.entries) || nat_lt 64 (length p.architectures)) (nat_lt 64 (length p.flags)) counts.0 in
    let first = both_false (nat_lt 2048 (length p.entries)) (nat_lt 64 (length p.architectures)) lists.0 in
    record {
      few_architectures = ltb-false 64 (length p.architectures) first.1;
      few_flags = ltb-false 64 (length p.flags) lists.1;
      few_entries = rw (same, length-map) (ltb-false 2048 (length p.entries) first.0);
      few_names = subst (λ es. All (λ e. length e.names ≤ 1024) es) (sym same) (All-map (λ e. length e.names ≤ 1024) entry_of p.entries (few_names p.entries counts.1));
      few_args = subst (λ es. All (λ e. length e.args ≤ 6) es) (sym same) (All-map (λ e. length e.args ≤ 6) entry_of p.entries (few_args p.entries counts.1));
      default = small;
      entries = lawful;
      one_action = one;
    }

-- ---- the whole, from its steps. The parts are seen twice, as they came and as their fields

-- what the steps before the last one answered
pub record Steps (v : FilterPartsValue) (default : Action) (entries shown : List EntryValue) : Type 0 where
  pub few : has_too_many v ≡ false
  pub default_answer : (first_fault (errno_checks v.default v.default_errno) ≡ None) × (default ≡ action_of v.default v.default_errno)
  pub default_lawful : IsLawfulAction default
  pub entries_answer : (entries ≡ map entry_of v.entries) × (first_fault (flat_map entry_checks v.entries) ≡ None) × All IsLawfulEntry entries
  pub same : shown ≡ entries

few_before : (p v : FilterPartsValue) → v ≡ p → has_too_many p ≡ false → has_too_many v ≡ false
few_before p v eq few = subst (λ x. has_too_many x ≡ false) (sym eq) few

pub steps : (p v : FilterPartsValue) (default : Action) (entries shown : List EntryValue) → v ≡ p → has_too_many p ≡ false →
    (first_fault (errno_checks v.default v.default_errno) ≡ None) × (default ≡ action_of v.default v.default_errno) → IsLawfulAction default →
    (entries ≡ map entry_of v.entries) × (first_fault (flat_map entry_checks v.entries) ≡ None) × All IsLawfulEntry entries → shown ≡ entries →
    Steps v default entries shown
steps p v default entries shown eq few answer lawful made same = record {
  few = few_before p v eq few;
  default_answer = answer;
  default_lawful = lawful;
  entries_answer = made;
  same = same;
}

-- the last step decides
pub fault_of-last : (p v : FilterPartsValue) (default : Action) (entries shown : List EntryValue) → v ≡ p → Steps v default entries shown →
    fault_of p ≡ first_fault (all_name_checks [] shown)
fault_of-last p v default entries shown eq done =
    subst (λ x. fault_of x ≡ first_fault (all_name_checks [] shown)) eq
    (fault_of-names v done.few done.default_answer.0 done.entries_answer.1 ∙ ap (λ es. first_fault (all_name_checks [] es)) (sym (done.same ∙ done.entries_answer.0)))

pub lawful_last : (v : FilterPartsValue) (default : Action) (entries shown : List EntryValue) → Steps v default entries shown → HasOneAction shown →
    IsLawfulFilter (record { default = default; architectures = v.architectures; flags = v.flags; entries = entries })
lawful_last v default entries shown done one =
    lawful_filter v default entries done.few done.default_lawful done.entries_answer.0 done.entries_answer.2 (subst HasOneAction done.same one)

abbrev pub made_of : Action → FilterPartsValue → List EntryValue → FilterValue
made_of default v entries = record { default = default; architectures = v.architectures; flags = v.flags; entries = entries }

pub made_last : (p v : FilterPartsValue) (default : Action) (entries shown : List EntryValue) → v ≡ p → Steps v default entries shown →
    first_fault (all_name_checks [] shown) ≡ None →
    (fault_of p ≡ None) × (made_of default v entries ≡ filter_of p)
made_last p v default entries shown eq done none = (
  fault_of-last p v default entries shown eq done ∙ none,
  ap (λ a. made_of a v entries) done.default_answer.1 ∙ ap (made_of (action_of v.default v.default_errno) v) done.entries_answer.0 ∙ ap filter_of eq,
)
