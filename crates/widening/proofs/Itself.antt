-- Nothing is found between a profile and itself.
use Rattle.std.proofs.Common.{◌≡◌, ◌∙◌, ap, refl, sym, ℕ, List, [], ◌∷◌, ◌++◌, Bool, true, false, not, cond, ◌||◌, ◌&&◌, ◌==◌, Option, Some, None, All, Contains, map, length, nat_le, bytes_eq, eq-eqb, arith}
use Rattle.std.specs.Prelude.{filter, IfSome}
use Rattle.std.specs.List.{list_all, list_any, flat_map, range_with_len}
use Rattle.std.specs.Int.{bit_at}
use Rattle.std.proofs.lemmas.Bool.{and_from, or_left, or_right, or_from, not_from_true, le-leb, le-ltb}
use Rattle.std.proofs.lemmas.List.Elements.{All-contains_itself, All-head, All-tail, All-weaker}
use Rattle.std.proofs.lemmas.List.Folds.{list_any_at}
use Rattle.std.proofs.lemmas.Slice.Eq.{bytes_eq-Decides}
use Rattle.cap_sets.specs.declared.state.CapState.{CapState}
use Rattle.seccomp_doc.specs.declared.compare.Compare.{Compare}
use Rattle.seccomp_doc.specs.Action.{rank_of}
use Rattle.seccomp_doc.specs.Filter.{EntryValue, FilterValue}
use Rattle.seccomp_doc.specs.Lawful.{IsLawfulFilter}
use Rattle.seccomp_doc.specs.Meaning.{has_name}
use Rattle.profile_text.specs.declared.profile.Profile.{Profile}
use Rattle.profile_text.specs.Reads.{state_set}
use Rattle.implication.specs.Implication.{entry_implies, implies}
use Rattle.implication.proofs.Implied.{implies-from_exact}
use Rattle.widening.specs.declared.finding.Finding.TheVariants.{Cap, AnyArch, Arch, Flag, Call, Default}
use Rattle.widening.specs.Calls.{Rules, entry_rank, is_at_most_entries, is_at_most_possible, is_covered, is_default_covered, is_kept, is_plain, keeps_to, rules_of}
use Rattle.widening.specs.Findings.{arch_findings, call_findings, call_names, cap_findings, compared_sets, default_findings, filter_findings, findings_of, flag_findings, gained, set_findings}
use Rattle.widening.specs.Texts.{added_texts, each_once, lists}
use Rattle.widening.proofs.Searches.{filter-none}
use Rattle.widening.proofs.TextFacts.{list_any-each_once}

-- ---- lists

-- what passes in a filtered list, from what passes in the whole
list_all-filter : {X : Type 0} (p keep : X → Bool) (xs : List X) → All (λ x. keep x ≡ true → p x ≡ true) xs → list_all p (filter keep xs) ≡ true
list_all-filter p keep [] all = refl
list_all-filter {X} p keep (x ∷ xs) all =
    elim (keep x) as (λ b. (b ≡ true → p x ≡ true) → list_all p (cond b (x ∷ filter keep xs) (filter keep xs)) ≡ true) [
      | true ↦ λ here. and_from (p x) (list_all p (filter keep xs)) (here refl) (list_all-filter p keep xs (All-tail (λ (y : X). keep y ≡ true → p y ≡ true) x xs all))
      | false ↦ λ here. list_all-filter p keep xs (All-tail (λ (y : X). keep y ≡ true → p y ≡ true) x xs all)
    ] (All-head (λ (y : X). keep y ≡ true → p y ≡ true) x xs all)

list_any-filter : {X : Type 0} (p keep : X → Bool) (xs : List X) → list_any p (filter keep xs) ≡ list_any (λ x. keep x && p x) xs
list_any-filter p keep [] = refl
list_any-filter p keep (x ∷ xs) =
    elim (keep x) as (λ b. list_any p (cond b (x ∷ filter keep xs) (filter keep xs)) ≡ ((b && p x) || list_any (λ y. keep y && p y) xs)) [
      | true ↦ ap (λ b. p x || b) (list_any-filter p keep xs)
      | false ↦ list_any-filter p keep xs
    ]

-- an element that is kept and passes
kept_passes : {X : Type 0} (p keep : X → Bool) (xs : List X) (x : X) → Contains xs x → keep x ≡ true → p x ≡ true → list_any p (filter keep xs) ≡ true
kept_passes p keep xs x in_xs kept passes =
    list_any-filter p keep xs
    ∙ list_any_at (λ y. keep y && p y) xs in_xs.0 x in_xs.1 (ap (λ y. keep y && p y) in_xs.2 ∙ and_from (keep x) (p x) kept passes)

-- each element, where it passes as an element
each_passes : {X : Type 0} (p keep : X → Bool) (xs : List X) → ((x : X) → Contains xs x → keep x ≡ true → p x ≡ true) → list_all p (filter keep xs) ≡ true
each_passes {X} p keep xs each =
    list_all-filter p keep xs (All-weaker (Contains xs) (λ (x : X). keep x ≡ true → p x ≡ true) each xs (All-contains_itself xs))

filter_against : {X : Type 0} (test : X → Bool) (xs : List X) → filter (λ x. test x && not (test x)) xs ≡ []
filter_against test [] = refl
filter_against test (x ∷ xs) = elim (test x) as (λ b. cond (b && not b) (x ∷ filter (λ y. test y && not (test y)) xs) (filter (λ y. test y && not (test y)) xs) ≡ []) [
  | true ↦ filter_against test xs
  | false ↦ filter_against test xs
]

flat_map_empty : {X Y : Type 0} (f : X → List Y) → ((x : X) → f x ≡ []) → (xs : List X) → flat_map f xs ≡ []
flat_map_empty f empty [] = refl
flat_map_empty f empty (x ∷ xs) = ap (λ ys. ys ++ flat_map f xs) (empty x) ∙ flat_map_empty f empty xs

-- ---- texts

all_listed : (texts others : List (List ℕ)) → ((text : List ℕ) → lists texts text ≡ true → lists others text ≡ true) → list_any (λ text. not (lists others text)) texts ≡ false
all_listed [] others within = refl
all_listed (text ∷ texts) others within =
    or_from (not (lists others text)) (list_any (λ t. not (lists others t)) texts)
    (not_from_true _ (within text (or_left (bytes_eq text text) (lists texts text) ((bytes_eq-Decides text text).1 refl))))
    (all_listed texts others (λ t listed. within t (or_right (bytes_eq t text) (lists texts t) listed)))

nothing_added : (texts : List (List ℕ)) → added_texts texts texts ≡ []
nothing_added texts =
    filter-none (λ text. not (lists texts text)) (each_once texts)
    (list_any-each_once (λ text. not (lists texts text)) texts ∙ all_listed texts texts (λ text listed. listed))

no_architecture : (texts : List (List ℕ)) → arch_findings texts texts ≡ []
no_architecture texts =
    elim (length texts == 0) as (λ b. cond (b && not b) (AnyArch ∷ []) (map Arch (added_texts texts texts)) ≡ []) [
      | true ↦ ap (map Arch) (nothing_added texts)
      | false ↦ ap (map Arch) (nothing_added texts)
    ]

-- ---- entries

implies_itself : (c : Compare) → implies c c ≡ true
implies_itself c = sym (implies-from_exact true c c (λ word small here. here))

all_pass : {X : Type 0} (p : X → Bool) (xs : List X) → All (λ x. p x ≡ true) xs → list_all p xs ≡ true
all_pass p [] all = refl
all_pass {X} p (x ∷ xs) all =
    and_from (p x) (list_all p xs) (All-head (λ (y : X). p y ≡ true) x xs all) (all_pass p xs (All-tail (λ (y : X). p y ≡ true) x xs all))

list_all-each : {X : Type 0} (p : X → Bool) (xs : List X) → ((x : X) → Contains xs x → p x ≡ true) → list_all p xs ≡ true
list_all-each {X} p xs each = all_pass p xs (All-weaker (Contains xs) (λ (x : X). p x ≡ true) each xs (All-contains_itself xs))

entry_implies_itself : (e : EntryValue) → entry_implies e e ≡ true
entry_implies_itself e =
    list_all-each (λ d. list_any (λ c. c.index == d.index && implies c d) e.args) e.args (λ d in_args.
    list_any_at (λ c. c.index == d.index && implies c d) e.args in_args.0 d in_args.1
    (ap (λ c. c.index == d.index && implies c d) in_args.2 ∙ and_from (d.index == d.index) (implies d d) (eq-eqb d.index d.index refl) (implies_itself d)))

module _ (f : FilterValue) (lawful : IsLawfulFilter f) (name : List ℕ) where
  abbrev own_rules : Rules
  own_rules = rules_of name f

  -- all entries of the name have one rank
  one_rank : (e : EntryValue) → Contains f.entries e → has_name name e ≡ true → is_at_most_entries (entry_rank e) own_rules.entries ≡ true
  one_rank e in_f has =
      each_passes (λ b. nat_le (entry_rank e) (entry_rank b)) (has_name name) f.entries (λ b in_b has_b.
      let same : entry_rank e ≡ entry_rank b = ap rank_of (lawful.one_action e b in_f in_b name has has_b) in
      le-leb (entry_rank e) (entry_rank b) (omega arith))

  implies_one : (e : EntryValue) → Contains f.entries e → has_name name e ≡ true → list_any (entry_implies e) own_rules.entries ≡ true
  implies_one e in_f has = kept_passes (entry_implies e) (has_name name) f.entries e in_f has (entry_implies_itself e)

  keeps_to_itself : keeps_to f f name ≡ true
  keeps_to_itself =
      and_from (list_all (is_covered own_rules) own_rules.entries) (is_default_covered own_rules own_rules)
      (each_passes (is_covered own_rules) (has_name name) f.entries (λ e in_f has.
      or_right (is_at_most_possible (entry_rank e) own_rules) _
      (and_from (is_at_most_entries (entry_rank e) own_rules.entries) (list_any (entry_implies e) own_rules.entries) (one_rank e in_f has) (implies_one e in_f has))))
      (or_right (list_any is_plain own_rules.entries || is_at_most_possible (rank_of f.default) own_rules) _
      (and_from (nat_le (rank_of f.default) (rank_of f.default)) (list_all (is_kept own_rules) own_rules.entries) (le-leb (rank_of f.default) (rank_of f.default) (omega arith))
      (each_passes (is_kept own_rules) (has_name name) f.entries (λ b in_f has. or_right (nat_le (rank_of f.default) (entry_rank b)) (list_any (entry_implies b) own_rules.entries) (implies_one b in_f has)))))

none_fail : (p : List ℕ → Bool) → ((x : List ℕ) → p x ≡ true) → (xs : List (List ℕ)) → filter (λ x. not (p x)) xs ≡ []
none_fail p all [] = refl
none_fail p all (x ∷ xs) = ap (λ b. cond (not b) (x ∷ filter (λ y. not (p y)) xs) (filter (λ y. not (p y)) xs)) (all x) ∙ none_fail p all xs

no_call : (f : FilterValue) → IsLawfulFilter f → call_findings f f ≡ []
no_call f lawful = ap (map Call) (none_fail (keeps_to f f) (keeps_to_itself f lawful) (call_names f f))

no_default : (f : FilterValue) → default_findings f f ≡ []
no_default f = ap (λ b. cond b (Default ∷ []) []) (le-ltb (rank_of f.default) (rank_of f.default) (omega arith))

no_filter_finding : (filter : Option FilterValue) → IfSome filter IsLawfulFilter → filter_findings filter filter ≡ []
no_filter_finding None lawful = refl
no_filter_finding (Some f) lawful =
    ap (λ found. found ++ flag_findings f.flags f.flags ++ call_findings f f ++ default_findings f f) (no_architecture f.architectures)
    ∙ ap (λ found. found ++ call_findings f f ++ default_findings f f) (ap (map Flag) (nothing_added f.flags))
    ∙ ap (λ found. found ++ default_findings f f) (no_call f lawful)
    ∙ no_default f

no_cap : (state : CapState) → cap_findings state state ≡ []
unfolding gained
no_cap state = flat_map_empty (set_findings state state) (λ set. ap (map (Cap set)) (filter_against (λ n. bit_at (state_set set state) n == 1) (range_with_len 0 41))) compared_sets

pub nothing_found : (p : Profile) → IfSome p.filter IsLawfulFilter → findings_of p p ≡ []
unfolding findings_of
nothing_found p lawful = ap (λ found. found ++ filter_findings p.filter p.filter) (no_cap p.caps) ∙ no_filter_finding p.filter lawful
