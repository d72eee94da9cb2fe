-- Texts in byte order, and the names of the calls that are found, which are in byte order.
use Rattle.std.proofs.Common.{◌≡◌, ◌∙◌, ap, refl, sym, ℕ, List, [], ◌∷◌, ◌++◌, Bool, bytes_eq, cond, true, false, nat_lt, map, subst, Option, Some, None}
use Rattle.std.specs.Prelude.{filter, flat_map}
use Rattle.std.specs.Borrow.{Bor}
use Rattle.std.specs.BTreeMap.{is_at}
use Rattle.std.specs.BTreeSet.{insert_key}
use Rattle.std.specs.Cmp.Lexicographic.{on_texts, slice_cmp, texts_ties}
use Rattle.std.specs.List.{AllByRecursion, dedup, list_any}
use Rattle.std.specs.List.Sorted.{IsPermutation, IsSorted, IsStrictlySortedBy}
use Rattle.std.specs.Ordering.{match_ordering, nat_cmp, ordering_reverse}
use Rattle.std.specs.declared.cmp.Ordering.{Ordering}
use Rattle.std.specs.declared.cmp.Ordering.TheVariants.{Equal, Greater, Less}
use Rattle.std.proofs.lemmas.Cmp.{nat_list_cmp_total}
use Rattle.std.proofs.lemmas.List.Concat.{flat_map-append}
use Rattle.std.proofs.lemmas.List.Kept.{IsStrictlySortedBy-dedup, IsStrictlySortedBy-filter}
use Rattle.std.proofs.lemmas.Map.Lookups.{btree_set_from_contains, exact_bytes}
use Rattle.cap_sets.specs.declared.state.CapState.{CapState}
use Rattle.seccomp_doc.specs.Action.{rank_of}
use Rattle.seccomp_doc.specs.Filter.{FilterValue}
use Rattle.profile_text.specs.declared.profile.Profile.{Profile}
use Rattle.profile_text.specs.declared.sets.CapSet.{CapSet}
use Rattle.profile_text.specs.Reads.{state_set}
use Rattle.widening.specs.declared.finding.Finding.{Finding}
use Rattle.widening.specs.declared.finding.Finding.TheVariants.{AnyArch, Arch, Call, Cap, Default, Flag}
use Rattle.widening.specs.Calls.{entry_names, is_permitted_more}
use Rattle.widening.specs.Findings.{arch_findings, between_filters, call_findings, call_names, called, called_by, cap_findings, compared_sets, default_findings, filter_findings, findings_of, flag_findings, gained, is_emptied, set_findings}
use Rattle.widening.specs.Texts.{AreInOrder, added_texts, in_byte_order, put_in_order, texts_in}
use Rattle.widening.proofs.TextFacts.{any_sorted_once, list_any-in_byte_order}

-- what holds of all and of one more holds of all with that put in its place
all_placed : (P : List ℕ → Type 0) (k : List ℕ) (xs : List (List ℕ)) → AllByRecursion P xs → P k → AllByRecursion P (insert_key (slice_cmp nat_cmp) xs k)
all_placed P k [] all here = (here, all)
all_placed P k (x ∷ xs) all here = by (slice_cmp nat_cmp k x) (all_placed P k xs all.1 here)
  where
    by : (o : Ordering) → AllByRecursion P (insert_key (slice_cmp nat_cmp) xs k) → AllByRecursion P (match_ordering o (k ∷ x ∷ xs) (x ∷ xs) (x ∷ insert_key (slice_cmp nat_cmp) xs k))
    by Less later = (here, all)
    by Equal later = all
    by Greater later = (all.0, later)

all_weaker : (P Q : List ℕ → Type 0) → ((x : List ℕ) → P x → Q x) → (xs : List (List ℕ)) → AllByRecursion P xs → AllByRecursion Q xs
all_weaker P Q weaker [] all = all
all_weaker P Q weaker (x ∷ xs) all = (weaker x all.0, all_weaker P Q weaker xs all.1)

placed_by : (k x : List ℕ) (xs later : List (List ℕ)) (o : Ordering) → slice_cmp nat_cmp k x ≡ o → IsStrictlySortedBy (slice_cmp nat_cmp) (x ∷ xs) →
    (slice_cmp nat_cmp x k ≡ Less → AllByRecursion (λ y. slice_cmp nat_cmp x y ≡ Less) later) → IsStrictlySortedBy (slice_cmp nat_cmp) later →
    IsStrictlySortedBy (slice_cmp nat_cmp) (match_ordering o (k ∷ x ∷ xs) (x ∷ xs) (x ∷ later))
unfolding IsStrictlySortedBy
placed_by k x xs later Less less sorted above rest =
    ((less, all_weaker (λ y. slice_cmp nat_cmp x y ≡ Less) (λ y. slice_cmp nat_cmp k y ≡ Less) (λ y below. nat_list_cmp_total.trans k x y less below) xs sorted.0), sorted)
placed_by k x xs later Equal same sorted above rest = sorted
placed_by k x xs later Greater more sorted above rest = (above (nat_list_cmp_total.antisymm x k ∙ ap ordering_reverse more), rest)

sorted_placed : (k : List ℕ) (xs : List (List ℕ)) → IsStrictlySortedBy (slice_cmp nat_cmp) xs → IsStrictlySortedBy (slice_cmp nat_cmp) (insert_key (slice_cmp nat_cmp) xs k)
unfolding IsStrictlySortedBy
sorted_placed k [] sorted = (tt, tt)
sorted_placed k (x ∷ xs) sorted =
    placed_by k x xs (insert_key (slice_cmp nat_cmp) xs k) (slice_cmp nat_cmp k x) refl sorted
    (λ below. all_placed (λ y. slice_cmp nat_cmp x y ≡ Less) k xs sorted.0 below) (sorted_placed k xs sorted.1)

sorted_in_order : (ordered texts : List (List ℕ)) → IsStrictlySortedBy (slice_cmp nat_cmp) ordered → IsStrictlySortedBy (slice_cmp nat_cmp) (put_in_order ordered texts)
sorted_in_order ordered [] sorted = sorted
sorted_in_order ordered (text ∷ texts) sorted = sorted_in_order (insert_key (slice_cmp nat_cmp) ordered text) texts (sorted_placed text ordered sorted)

nothing_sorted : IsStrictlySortedBy (slice_cmp nat_cmp) []
unfolding IsStrictlySortedBy
nothing_sorted = tt

-- ---- texts that are referred to, put in order and each left once

below_shown : (x : Bor (List ℕ)) (xs : List (Bor (List ℕ))) → AllByRecursion (λ y. slice_cmp nat_cmp x.now y.now ≡ Less) xs →
    AllByRecursion (λ y. slice_cmp nat_cmp x.now y ≡ Less) (texts_in xs)
below_shown x [] all = tt
below_shown x (y ∷ ys) all = (all.0, below_shown x ys all.1)

sorted_shown : (xs : List (Bor (List ℕ))) → IsStrictlySortedBy (λ x y. slice_cmp nat_cmp x.now y.now) xs → IsStrictlySortedBy (slice_cmp nat_cmp) (texts_in xs)
unfolding IsStrictlySortedBy
sorted_shown [] sorted = tt
sorted_shown (x ∷ xs) sorted = (below_shown x xs sorted.0, sorted_shown xs sorted.1)

-- a list in strict order with the same texts
in_order_is : (keys texts : List (List ℕ)) → IsStrictlySortedBy (slice_cmp nat_cmp) keys → ((p : List ℕ → Bool) → list_any p keys ≡ list_any p texts) →
    keys ≡ in_byte_order texts
in_order_is keys texts sorted same =
    btree_set_from_contains nat_list_cmp_total (record { keys = keys }) (record { keys = in_byte_order texts }) sorted (sorted_in_order [] texts nothing_sorted)
    (λ q. same (is_at (slice_cmp nat_cmp q)) ∙ sym (list_any-in_byte_order (is_at (slice_cmp nat_cmp q)) texts)) exact_bytes

strictly_once : (sorted : List (Bor (List ℕ))) → IsSorted (λ x y. slice_cmp nat_cmp x.now y.now) sorted → AreInOrder (dedup (λ x y. bytes_eq x.now y.now) sorted)
strictly_once sorted in_order = sorted_shown _ (IsStrictlySortedBy-dedup (on_texts (λ x. x.now)) (λ x y. texts_ties x.now y.now) sorted in_order)

pub ordered_once : (sorted new : List (Bor (List ℕ))) → IsSorted (λ x y. slice_cmp nat_cmp x.now y.now) sorted →
    new ≡ dedup (λ x y. bytes_eq x.now y.now) sorted → AreInOrder new
ordered_once sorted new in_order is = subst AreInOrder (sym is) (strictly_once sorted in_order)

pub sorted_once : (old sorted new : List (Bor (List ℕ))) → IsPermutation old sorted → IsSorted (λ x y. slice_cmp nat_cmp x.now y.now) sorted →
    new ≡ dedup (λ x y. bytes_eq x.now y.now) sorted → texts_in new ≡ in_byte_order (texts_in old)
sorted_once old sorted new moved in_order is =
    ap texts_in is
    ∙ in_order_is (texts_in (dedup (λ x y. bytes_eq x.now y.now) sorted)) (texts_in old)
    (strictly_once sorted in_order)
    (λ p. any_sorted_once p old sorted moved)

-- ---- the names among the findings

called-append : (xs ys : List Finding) → called (xs ++ ys) ≡ called xs ++ called ys
called-append xs ys = flat_map-append called_by xs ys

none_called : {X : Type 0} (f : X → Finding) → ((x : X) → called_by (f x) ≡ []) → (xs : List X) → called (map f xs) ≡ []
none_called f none [] = refl
none_called f none (x ∷ xs) = ap (λ names. names ++ called (map f xs)) (none x) ∙ none_called f none xs

called_calls : (names : List (List ℕ)) → called (map Call names) ≡ names
called_calls [] = refl
called_calls (name ∷ names) = ap (λ ns. name ∷ ns) (called_calls names)

no_cap_called : (base new : CapState) (sets : List CapSet) → called (flat_map (set_findings base new) sets) ≡ []
no_cap_called base new [] = refl
no_cap_called base new (set ∷ sets) =
    called-append (set_findings base new set) (flat_map (set_findings base new) sets)
    ∙ ap (λ names. names ++ called (flat_map (set_findings base new) sets)) (none_called (Cap set) (λ n. refl) (gained (state_set set base) (state_set set new)))
    ∙ no_cap_called base new sets

no_arch_called : (base new : List (List ℕ)) → called (arch_findings base new) ≡ []
no_arch_called base new = elim (is_emptied base new) as (λ b. called (cond b (AnyArch ∷ []) (map Arch (added_texts base new))) ≡ []) [
  | true ↦ refl
  | false ↦ none_called Arch (λ a. refl) (added_texts base new)
]

no_default_called : (base new : FilterValue) → called (default_findings base new) ≡ []
no_default_called base new = elim (nat_lt (rank_of base.default) (rank_of new.default)) as (λ b. called (cond b (Default ∷ []) []) ≡ []) [ true ↦ refl | false ↦ refl ]

append_nothing : (xs : List (List ℕ)) → xs ++ [] ≡ xs
append_nothing [] = refl
append_nothing (x ∷ xs) = ap (λ ys. x ∷ ys) (append_nothing xs)

between_called : (base new : FilterValue) → called (between_filters base new) ≡ filter (is_permitted_more base new) (call_names base new)
between_called base new =
    let archs = arch_findings base.architectures new.architectures in
    let flags = flag_findings base.flags new.flags in
    called-append (archs ++ flags ++ call_findings base new) (default_findings base new)
    ∙ ap (λ names. called (archs ++ flags ++ call_findings base new) ++ names) (no_default_called base new)
    ∙ append_nothing (called (archs ++ flags ++ call_findings base new))
    ∙ called-append (archs ++ flags) (call_findings base new)
    ∙ ap (λ names. names ++ called (call_findings base new)) (
    called-append archs flags ∙ ap (λ names. names ++ called flags) (no_arch_called base.architectures new.architectures)
    ∙ none_called Flag (λ f. refl) (added_texts base.flags new.flags)
    )
    ∙ called_calls (filter (is_permitted_more base new) (call_names base new))

filters_called : (base new : Option FilterValue) → IsStrictlySortedBy (slice_cmp nat_cmp) (called (filter_findings base new))
filters_called None new = nothing_sorted
filters_called (Some base) None = nothing_sorted
filters_called (Some base) (Some new) =
    subst (IsStrictlySortedBy (slice_cmp nat_cmp)) (sym (between_called base new))
    (IsStrictlySortedBy-filter (slice_cmp nat_cmp) (is_permitted_more base new) (call_names base new) (sorted_in_order [] (entry_names base.entries ++ entry_names new.entries) nothing_sorted))

pub calls_in_order : (base new : Profile) → IsStrictlySortedBy (slice_cmp nat_cmp) (called (findings_of base new))
unfolding findings_of
calls_in_order base new =
    subst (IsStrictlySortedBy (slice_cmp nat_cmp))
    (sym (called-append (cap_findings base.caps new.caps) (filter_findings base.filter new.filter)
    ∙ ap (λ names. names ++ called (filter_findings base.filter new.filter)) (no_cap_called base.caps new.caps compared_sets)))
    (filters_called base.filter new.filter)
