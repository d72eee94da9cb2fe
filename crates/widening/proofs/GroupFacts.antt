-- What the entries of a name are told by, and entries that are grouped.
use Rattle.std.proofs.Common.{◌≡◌, ◌∙◌, ap, refl, sym, ℕ, zero, suc, ◌+◌, ◌<◌, ◌≤◌, ◌⊎◌, List, [], ◌∷◌, ◌++◌, All, Bool, true, false, not, cond, ◌||◌, ◌&&◌, length, set, take, drop, get_or, nat_le, nat_lt, bytes_eq, append_assoc, arith, inl, inr, subst}
use Rattle.std.specs.Prelude.{Some, filter}
use Rattle.std.specs.Borrow.{Bor}
use Rattle.std.specs.Cmp.Lexicographic.{slice_cmp}
use Rattle.std.specs.List.{HoldsAt, list_all, list_any}
use Rattle.std.specs.List.Sorted.{IsNonDecreasingBy, IsPartitionPoint}
use Rattle.std.specs.Ordering.{is_eq, nat_cmp, ordering_index}
use Rattle.std.specs.declared.cmp.Ordering.{Ordering}
use Rattle.std.specs.declared.cmp.Ordering.TheVariants.{Equal, Greater, Less}
use Rattle.std.proofs.Math.Seq.{drop-append_seam}
use Rattle.std.proofs.lemmas.Bool.{and_from, cases_Bool, cases_eq, lt-ltb, ltb-false, ltb-true}
use Rattle.std.proofs.lemmas.Cmp.{nat_list_cmp_total}
use Rattle.std.proofs.lemmas.Grind.{get_or-set_at}
use Rattle.std.proofs.lemmas.List.{drop_more, get_or-set_other, get_or_default, length-append, length-set, length-take-le, take_more}
use Rattle.std.proofs.lemmas.List.Concat.{flat_map-append}
use Rattle.std.proofs.lemmas.List.Elements.{All-weaker}
use Rattle.std.proofs.lemmas.List.Folds.{list_any-append, list_any_more}
use Rattle.std.proofs.lemmas.List.Sums.{AllPass-from_list_all}
use Rattle.std.proofs.lemmas.Map.Keys.{Less-from_sorted}
use Rattle.std.proofs.lemmas.Map.Lookups.{exact_bytes}
use Rattle.std.proofs.lemmas.Map.Text.{is_eq-slice_cmp}
use Rattle.std.proofs.lemmas.Slice.Eq.{bytes_eq-Decides}
use Rattle.smallvec.specs.SmallVec.{SmallVec}
use Rattle.seccomp_doc.specs.declared.action.Action.{Action}
use Rattle.seccomp_doc.specs.Action.{rank_of}
use Rattle.seccomp_doc.specs.Filter.{EntryValue, FilterValue}
use Rattle.seccomp_doc.specs.Meaning.{has_name}
use Rattle.implication.specs.Implication.{entry_implies}
use Rattle.widening.specs.Calls.{entry_rank, is_at_most_entries, is_at_most_possible, is_covered, is_default_covered, is_kept, is_plain, keeps_to, permits_no_more, rules_of}
use Rattle.widening.specs.Groups.{AddsPlace, AddsUnder, AreWithin, HasSameElements, IsGrouping, IsPlaceAmong, entries_at, group_at, name_at, places_from, places_of}
use Rattle.widening.specs.Ranks.{rules_with}
use Rattle.widening.specs.Texts.{AreInOrder, texts_in}
use Rattle.widening.proofs.Searches.{list_any-flat_map, or_none}
use Rattle.widening.proofs.TextFacts.{bytes_eq-swap}

-- ---- tests of lists with the same elements

all_as_any : {X : Type 0} (p : X → Bool) (xs : List X) → list_all p xs ≡ not (list_any (λ x. not (p x)) xs)
all_as_any p [] = refl
all_as_any p (x ∷ xs) = elim (p x) as (λ b. (b && list_all p xs) ≡ not (not b || list_any (λ y. not (p y)) xs)) [ true ↦ all_as_any p xs | false ↦ refl ]

pub all_same : {X : Type 0} (p : X → Bool) (xs ys : List X) → HasSameElements xs ys → list_all p xs ≡ list_all p ys
all_same p xs ys same = all_as_any p xs ∙ ap not (same (λ x. not (p x))) ∙ sym (all_as_any p ys)

all_alike : (p q : EntryValue → Bool) → ((x : EntryValue) → p x ≡ q x) → (xs : List EntryValue) → list_all p xs ≡ list_all q xs
all_alike p q alike [] = refl
all_alike p q alike (x ∷ xs) = ap (λ b. b && list_all p xs) (alike x) ∙ ap (λ b. q x && b) (all_alike p q alike xs)

possible_same : (rank : ℕ) (d : Action) (xs ys : List EntryValue) → HasSameElements xs ys → is_at_most_possible rank (rules_with d xs) ≡ is_at_most_possible rank (rules_with d ys)
possible_same rank d xs ys same =
    ap (λ b. b && (list_any is_plain xs || nat_le rank (rank_of d))) (all_same (λ e. nat_le rank (entry_rank e)) xs ys same)
    ∙ ap (λ b. is_at_most_entries rank ys && (b || nat_le rank (rank_of d))) (same is_plain)

covered_same : (d : Action) (xs ys : List EntryValue) → HasSameElements xs ys → (e : EntryValue) → is_covered (rules_with d xs) e ≡ is_covered (rules_with d ys) e
covered_same d xs ys same e =
    ap (λ b. b || (is_at_most_entries (entry_rank e) xs && list_any (entry_implies e) xs)) (possible_same (entry_rank e) d xs ys same)
    ∙ ap (λ b. is_at_most_possible (entry_rank e) (rules_with d ys) || (b && list_any (entry_implies e) xs)) (all_same (λ b. nat_le (entry_rank e) (entry_rank b)) xs ys same)
    ∙ ap (λ b. is_at_most_possible (entry_rank e) (rules_with d ys) || (is_at_most_entries (entry_rank e) ys && b)) (same (entry_implies e))

kept_same : (d : Action) (xs ys : List EntryValue) → HasSameElements xs ys → (b : EntryValue) → is_kept (rules_with d xs) b ≡ is_kept (rules_with d ys) b
kept_same d xs ys same b = ap (λ x. nat_le (rank_of d) (entry_rank b) || x) (same (entry_implies b))

default_same : (d n : Action) (xs ys zs ws : List EntryValue) → HasSameElements xs ys → HasSameElements zs ws →
    is_default_covered (rules_with d xs) (rules_with n zs) ≡ is_default_covered (rules_with d ys) (rules_with n ws)
default_same d n xs ys zs ws same new =
    ap (λ b. (b || is_at_most_possible (rank_of n) (rules_with d xs)) || (nat_le (rank_of n) (rank_of d) && list_all (is_kept (rules_with n zs)) xs)) (new is_plain)
    ∙ ap (λ b. (list_any is_plain ws || b) || (nat_le (rank_of n) (rank_of d) && list_all (is_kept (rules_with n zs)) xs)) (possible_same (rank_of n) d xs ys same)
    ∙ ap (λ b. (list_any is_plain ws || is_at_most_possible (rank_of n) (rules_with d ys)) || (nat_le (rank_of n) (rank_of d) && b))
    (all_alike (is_kept (rules_with n zs)) (is_kept (rules_with n ws)) (kept_same n zs ws new) xs ∙ all_same (is_kept (rules_with n ws)) xs ys same)

pub permits_same : (d n : Action) (xs ys zs ws : List EntryValue) → HasSameElements xs ys → HasSameElements zs ws →
    permits_no_more (rules_with d xs) (rules_with n zs) ≡ permits_no_more (rules_with d ys) (rules_with n ws)
permits_same d n xs ys zs ws same new =
    ap (λ b. b && is_default_covered (rules_with d xs) (rules_with n zs))
    (all_alike (is_covered (rules_with d xs)) (is_covered (rules_with d ys)) (covered_same d xs ys same) zs ∙ all_same (is_covered (rules_with d ys)) zs ws new)
    ∙ ap (λ b. list_all (is_covered (rules_with d ys)) ws && b) (default_same d n xs ys zs ws same new)

-- ---- one name more, and one entry more

or_spread : (a b t h : Bool) → ((a || (b && t)) || (h && t)) ≡ (a || ((b || h) && t))
or_spread true b t h = refl
or_spread false true true h = refl
or_spread false true false true = refl
or_spread false true false false = refl
or_spread false false t h = refl

-- one name more of an entry: `mid` are the groups before it, and `new` those after it
pub name_added : (names : List (Bor (List ℕ))) (old mid new : List (SmallVec ℕ)) (added : List (List ℕ)) (i : ℕ) (name shown : List ℕ) (place : ℕ) →
    i < length added → name ≡ get_or added i name → shown ≡ name →
    AddsUnder names old mid (take i added) place → AddsUnder names mid new (shown ∷ []) place → AddsUnder names old new (take (i + 1) added) place
name_added names old mid new added i name shown place within is same before adds = (
  adds.0 ∙ before.0,
  λ at test inside.
      let q = name_at names at in
      let a = list_any test (group_at old at) in
      let b = list_any (bytes_eq q) (take i added) in
      let more : list_any (bytes_eq q) (take (i + 1) added) ≡ (b || bytes_eq q name) = list_any_more (bytes_eq q) added i name within ∙ ap (λ n. b || bytes_eq q n) (sym is) in
      adds.1 at test inside
      ∙ ap (λ x. x || (list_any (bytes_eq q) (shown ∷ []) && test place)) (before.1 at test inside)
      ∙ ap (λ h. (a || (b && test place)) || (h && test place)) (or_none (bytes_eq q shown) ∙ ap (bytes_eq q) same)
      ∙ or_spread a b (test place) (bytes_eq q name)
      ∙ ap (λ x. a || (x && test place)) (sym more),
)

places_from-push : (first : ℕ) (test : EntryValue → Bool) (es : List EntryValue) (e : EntryValue) →
    places_from first test (es ++ e ∷ []) ≡ places_from first test es ++ cond (test e) ((first + length es) ∷ []) []
places_from-push first test [] e = ap (λ n. cond (test e) (n ∷ []) []) (omega arith)
places_from-push first test (d ∷ es) e =
    let rest : places_from (first + 1) test (es ++ e ∷ []) ≡ places_from (first + 1) test es ++ cond (test e) ((first + length (d ∷ es)) ∷ []) [] =
    places_from-push (first + 1) test es e ∙ ap (λ n. places_from (first + 1) test es ++ cond (test e) (n ∷ []) []) (omega arith) in
    elim (test d) as (λ b. cond b (first ∷ places_from (first + 1) test (es ++ e ∷ [])) (places_from (first + 1) test (es ++ e ∷ []))
    ≡ cond b (first ∷ places_from (first + 1) test es) (places_from (first + 1) test es) ++ cond (test e) ((first + length (d ∷ es)) ∷ []) []) [
      | true ↦ ap (λ ps. first ∷ ps) rest
      | false ↦ rest
    ]

any_last : (test : ℕ → Bool) (h : Bool) (n : ℕ) → list_any test (cond h (n ∷ []) []) ≡ (h && test n)
any_last test true n = or_none (test n)
any_last test false n = refl

pub entry_added : (names : List (Bor (List ℕ))) (old new : List (SmallVec ℕ)) (es : List EntryValue) (i : ℕ) (e : EntryValue) → i < length es → e ≡ get_or es i e →
    IsGrouping (take i es) names old → AddsUnder names old new e.names i → IsGrouping (take (i + 1) es) names new
entry_added names old new es i e within is before adds = (
  adds.0 ∙ before.0,
  λ at inside test.
      let q = name_at names at in
      let count : length (take i es) ≡ i = length-take-le i es (omega arith) in
      adds.1 at test inside ∙ ap (λ b. b || (has_name q e && test i)) (before.1 at inside test)
      ∙ ap (λ b. list_any test (places_of q (take i es)) || b) (ap (λ n. has_name q e && test n) (sym count) ∙ sym (any_last test (has_name q e) (length (take i es))))
      ∙ sym (list_any-append test (places_of q (take i es)) (cond (has_name q e) (length (take i es) ∷ []) []))
      ∙ ap (list_any test) (ap (λ n. places_of q (take i es) ++ cond (has_name q e) (n ∷ []) []) (omega arith) ∙ sym (places_from-push 0 (has_name q) (take i es) e))
      ∙ ap (λ ds. list_any test (places_of q ds)) (ap (λ d. take i es ++ d ∷ []) is ∙ sym (take_more es i e within)),
)

-- ---- one group

-- without entries no group has a place
pub none_grouped : (names : List (Bor (List ℕ))) (groups : List (SmallVec ℕ)) → length groups ≡ length names → All (λ group. group.items ≡ []) groups →
    IsGrouping [] names groups
none_grouped names groups count empty = (count, λ at inside test. ap (list_any test) (empty at _ (omega (arith, inside, count))))

-- the text at a place, where another stands for one that isn't there
pub shown_at : (names : List (Bor (List ℕ))) (at : ℕ) (other : Bor (List ℕ)) → (get_or names at other).now ≡ get_or (texts_in names) at other.now
shown_at [] at other = refl
shown_at (name ∷ names) zero other = refl
shown_at (name ∷ names) (suc at) other = shown_at names at other

abbrev nothing : Bor (List ℕ)
nothing = record { ref_ptr = (0, 0); now = [] }

length-texts_in : (names : List (Bor (List ℕ))) → length (texts_in names) ≡ length names
length-texts_in [] = refl
length-texts_in (name ∷ names) = ap suc (length-texts_in names)

-- of two names the one that stands first is less
less_at : (names : List (Bor (List ℕ))) (i j : ℕ) (other : List ℕ) → AreInOrder names → i < j → j < length names →
    slice_cmp nat_cmp (get_or (texts_in names) i other) (get_or (texts_in names) j other) ≡ Less
less_at names i j other order before inside = Less-from_sorted (slice_cmp nat_cmp) (texts_in names) i j other order before (omega (arith, inside, length-texts_in names))

unlike : (x y : List ℕ) → slice_cmp nat_cmp x y ≡ Less → bytes_eq x y ≡ false
unlike x y less = sym (is_eq-slice_cmp x y) ∙ ap is_eq less

before_or_not : (i j : ℕ) → (i < j) ⊎ (j ≤ i)
before_or_not i j = elim (cases_Bool (nat_lt i j)) as (λ _. (i < j) ⊎ (j ≤ i)) [ inl below ↦ inl (ltb-true i j below) | inr other ↦ inr (ltb-false i j other) ]

apart : (names : List (Bor (List ℕ))) (i j : ℕ) → AreInOrder names → (i ≡ j → ⊥) → i < length names → j < length names → bytes_eq (name_at names i) (name_at names j) ≡ false
apart names i j order other within inside = elim (before_or_not i j) as (λ _. bytes_eq (name_at names i) (name_at names j) ≡ false) [
  | inl first ↦ unlike (name_at names i) (name_at names j) (less_at names i j [] order first inside)
  | inr later ↦ bytes_eq-swap (name_at names i) (name_at names j) ∙ unlike (name_at names j) (name_at names i) (less_at names j i [] order (after i j other later) within)
]
  where
    after : (i j : ℕ) → (i ≡ j → ⊥) → j ≤ i → j < i
    after i j other later = elim (before_or_not j i) as (λ _. j < i) [ inl below ↦ below | inr above ↦ absurd (other (omega (arith, above, later))) ]

at_most_two : (o : Ordering) → ordering_index o ≤ 2
at_most_two Less = omega arith
at_most_two Equal = omega arith
at_most_two Greater = omega arith

rises : (a b x : List ℕ) (o : Ordering) → slice_cmp nat_cmp b x ≡ o → slice_cmp nat_cmp a b ≡ Less → ordering_index (slice_cmp nat_cmp a x) ≤ ordering_index (slice_cmp nat_cmp b x)
rises a b x Less is less = let first : slice_cmp nat_cmp a x ≡ Less = nat_list_cmp_total.trans a b x less is in rw (first, is) (omega arith)
rises a b x Equal is less = let first : slice_cmp nat_cmp a x ≡ Less = ap (slice_cmp nat_cmp a) (sym (exact_bytes b x is)) ∙ less in rw (first, is) (omega arith)
rises a b x Greater is less = rw is (at_most_two (slice_cmp nat_cmp a x))

all_rise : (names : List (Bor (List ℕ))) (name : List ℕ) → AreInOrder names → IsNonDecreasingBy (λ y. ordering_index (slice_cmp nat_cmp y.now name)) names
all_rise names name order i j other before inside = elim (before_or_not i j) as (λ _. ordering_index (slice_cmp nat_cmp (get_or names i other).now name) ≤ ordering_index (slice_cmp nat_cmp (get_or names j other).now name)) [
  | inl first ↦ rises (get_or names i other).now (get_or names j other).now name _ refl (rw (shown_at names i other, shown_at names j other) (less_at names i j other.now order first inside))
  | inr later ↦ let same : i ≡ j = omega (arith, later, before) in rw same (omega arith)
]

-- a name that a search doesn't find isn't among the names
pub not_found : (names : List (Bor (List ℕ))) (name : List ℕ) (i at : ℕ) → AreInOrder names →
    (IsNonDecreasingBy (λ y. ordering_index (slice_cmp nat_cmp y.now name)) names
    → IsPartitionPoint (λ y. slice_cmp nat_cmp y.now name ≡ Less) (λ y. slice_cmp nat_cmp y.now name ≡ Greater) names i) →
    at < length names → bytes_eq (name_at names at) name ≡ false
not_found names name i at order parts inside =
    let both = parts (all_rise names name order) in
    elim (before_or_not at i) as (λ _. bytes_eq (name_at names at) name ≡ false) [
      | inl first ↦ unlike (name_at names at) name (ap (λ x. slice_cmp nat_cmp x name) (sym (shown_at names at nothing)) ∙ both.0 at nothing (omega arith) first)
      | inr later ↦ sym (is_eq-slice_cmp (name_at names at) name) ∙ ap is_eq (ap (λ x. slice_cmp nat_cmp x name) (sym (shown_at names at nothing)) ∙ both.1 at nothing later inside)
    ]

-- such a name has no group
pub none_added : (names : List (Bor (List ℕ))) (groups : List (SmallVec ℕ)) (name : List ℕ) (place : ℕ) →
    ((at : ℕ) → at < length names → bytes_eq (name_at names at) name ≡ false) → AddsUnder names groups groups (name ∷ []) place
none_added names groups name place none = (
  refl,
  λ at test inside.
      sym (or_none (list_any test (group_at groups at)))
      ∙ ap (λ h. list_any test (group_at groups at) || ((h || false) && test place)) (sym (none at inside)),
)

pub found_at : (names : List (Bor (List ℕ))) (name : List ℕ) (at : ℕ) → HoldsAt (λ y. slice_cmp nat_cmp y.now name ≡ Equal) names at → name ≡ name_at names at
found_at names name at holds = sym (exact_bytes (get_or names at nothing).now name (holds nothing)) ∙ shown_at names at nothing

-- so is a name that stands at a place
pub named_here : (names : List (Bor (List ℕ))) (name : List ℕ) (at : ℕ) (other : Bor (List ℕ)) → at < length names →
    bytes_eq (get_or names at other).now name ≡ true → IsPlaceAmong names name (Some at)
named_here names name at other within same = (
  within,
  sym ((bytes_eq-Decides (get_or names at other).now name).0 same) ∙ ap (λ (own : Bor (List ℕ)). own.now) (get_or_default names at other nothing within) ∙ shown_at names at nothing,
)

pub place_added : (groups : List (SmallVec ℕ)) (at : ℕ) (group : SmallVec ℕ) (after : List ℕ) (place : ℕ) → at < length groups →
    AddsPlace (get_or groups at group).items after place → AddsPlace (group_at groups at) after place
place_added groups at group after place inside adds = subst (λ (g : SmallVec ℕ). AddsPlace g.items after place) (get_or_default groups at group _ inside) adds

-- the groups, where a place was added to that of a name
pub under_added : (names : List (Bor (List ℕ))) (old : List (SmallVec ℕ)) (at : ℕ) (name : List ℕ) (after : SmallVec ℕ) (place : ℕ) → AreInOrder names →
    length old ≡ length names → at < length names → name ≡ name_at names at → AddsPlace (group_at old at) after.items place →
    AddsUnder names old (set old at after) (name ∷ []) place
under_added names old at name after place order count within is adds = (
  length-set old at after,
  λ j test inside.
      let new = set old at after in
      let here : bytes_eq (name_at names j) name ≡ bytes_eq (name_at names j) (name_at names at) = ap (bytes_eq (name_at names j)) is in
      elim (cases_eq j at) as (λ _. list_any test (group_at new j) ≡ (list_any test (group_at old j) || ((bytes_eq (name_at names j) name || false) && test place))) [
        | inl same ↦
            let told : bytes_eq (name_at names j) name ≡ true = here ∙ ap (λ n. bytes_eq (name_at names n) (name_at names at)) same ∙ (bytes_eq-Decides (name_at names at) (name_at names at)).1 refl in
            ap (λ (group : SmallVec ℕ). list_any test group.items) (get_or-set_at old at j after _ same (omega (arith, within, count)))
            ∙ adds test
            ∙ ap (λ n. list_any test (group_at old n) || test place) (sym same)
            ∙ ap (λ h. list_any test (group_at old j) || ((h || false) && test place)) (sym told)
        | inr other ↦
            ap (λ (group : SmallVec ℕ). list_any test group.items) (get_or-set_other old at j after _ other)
            ∙ sym (or_none (list_any test (group_at old j)))
            ∙ ap (λ h. list_any test (group_at old j) || ((h || false) && test place)) (sym (here ∙ apart names j at order other inside within))
      ],
)

-- the places of the group at a place
pub group_is : (groups : List (SmallVec ℕ)) (at : ℕ) (group : SmallVec ℕ) (places : List ℕ) → at < length groups → group ≡ get_or groups at group →
    places ≡ group.items → places ≡ group_at groups at
group_is groups at group places inside is shown = shown ∙ ap (λ (g : SmallVec ℕ). g.items) (is ∙ get_or_default groups at group _ inside)

-- ---- the entries at places

passing : (test t : EntryValue → Bool) (before es : List EntryValue) →
    list_any (λ p. list_any t (take 1 (drop p (before ++ es)))) (places_from (length before) test es) ≡ list_any t (filter test es)
passing test t before [] = refl
passing test t before (e ∷ es) =
    let here : list_any t (take 1 (drop (length before) (before ++ e ∷ es))) ≡ t e = ap (λ ds. list_any t (take 1 ds)) (drop-append_seam before (e ∷ es)) ∙ or_none (t e) in
    let at : ℕ → List EntryValue → Bool = λ n ds. list_any (λ p. list_any t (take 1 (drop p ds))) (places_from n test es) in
    let rest : at (length before + 1) (before ++ e ∷ es) ≡ list_any t (filter test es) =
    ap (λ n. at n (before ++ e ∷ es)) (sym (length-append before (e ∷ []))) ∙ ap (at (length (before ++ e ∷ []))) (sym (append_assoc before (e ∷ []) es))
    ∙ passing test t (before ++ e ∷ []) es in
    elim (test e) as (λ b. list_any (λ p. list_any t (take 1 (drop p (before ++ e ∷ es)))) (cond b (length before ∷ places_from (length before + 1) test es) (places_from (length before + 1) test es))
    ≡ list_any t (cond b (e ∷ filter test es) (filter test es))) [
      | true ↦ ap (λ b. b || at (length before + 1) (before ++ e ∷ es)) here ∙ ap (λ b. t e || b) rest
      | false ↦ rest
    ]

-- the entries at the places of a name
pub named_at : (name : List ℕ) (es : List EntryValue) (places : List ℕ) → HasSameElements places (places_of name es) → HasSameElements (entries_at es places) (filter (has_name name) es)
named_at name es places same t =
    list_any-flat_map t (λ p. take 1 (drop p es)) places
    ∙ same (λ p. list_any t (take 1 (drop p es)))
    ∙ passing (has_name name) t [] es

places_below : (first : ℕ) (test : EntryValue → Bool) (es : List EntryValue) (n : ℕ) → first + length es ≡ n → list_all (λ p. nat_lt p n) (places_from first test es) ≡ true
places_below first test [] n end = refl
places_below first test (e ∷ es) n end =
    let rest = places_below (first + 1) test es n (omega (arith, end)) in
    elim (test e) as (λ b. list_all (λ p. nat_lt p n) (cond b (first ∷ places_from (first + 1) test es) (places_from (first + 1) test es)) ≡ true) [
      | true ↦ and_from (nat_lt first n) (list_all (λ p. nat_lt p n) (places_from (first + 1) test es)) (lt-ltb first n (omega (arith, end))) rest
      | false ↦ rest
    ]

pub named_within : (name : List ℕ) (es : List EntryValue) (places : List ℕ) → HasSameElements places (places_of name es) → AreWithin es places
named_within name es places same =
    All-weaker (λ (p : ℕ). nat_lt p (length es) ≡ true) (λ (p : ℕ). p < length es) (λ p below. ltb-true p (length es) below) places
    (AllPass-from_list_all (λ p. nat_lt p (length es)) places
    (all_same (λ p. nat_lt p (length es)) places (places_of name es) same ∙ places_below 0 (has_name name) es (length es) (omega arith)))

-- one place more
pub entries_at-push : (es : List EntryValue) (places : List ℕ) (place : ℕ) (e : EntryValue) → place < length es → e ≡ get_or es place e →
    entries_at es (places ++ place ∷ []) ≡ entries_at es places ++ e ∷ []
entries_at-push es places place e within is =
    flat_map-append (λ p. take 1 (drop p es)) places (place ∷ [])
    ∙ ap (λ ds. entries_at es places ++ (take 1 ds ++ [])) (drop_more es place e within)
    ∙ ap (λ d. entries_at es places ++ d ∷ []) (sym is)

pub entries_at-more : (es : List EntryValue) (places : List ℕ) (i place : ℕ) (e : EntryValue) → i < length places → place ≡ get_or places i place →
    place < length es → e ≡ get_or es place e → entries_at es (take (i + 1) places) ≡ entries_at es (take i places) ++ e ∷ []
entries_at-more es places i place e within is place_within e_is =
    ap (entries_at es) (take_more places i place within ∙ ap (λ p. take i places ++ p ∷ []) (sym is)) ∙ entries_at-push es (take i places) place e place_within e_is

-- the test of a name by the groups of two filters
pub grouped_keeps : (base new : FilterValue) (name : List ℕ) (d n : Action) (xs zs : List EntryValue) → d ≡ base.default → n ≡ new.default →
    HasSameElements xs (filter (has_name name) base.entries) → HasSameElements zs (filter (has_name name) new.entries) →
    permits_no_more (record { default = d; entries = xs }) (record { default = n; entries = zs }) ≡ keeps_to base new name
grouped_keeps base new name d n xs zs same_d same_n in_base in_new =
    permits_same d n xs (filter (has_name name) base.entries) zs (filter (has_name name) new.entries) in_base in_new
    ∙ ap (λ a. permits_no_more (rules_with a (filter (has_name name) base.entries)) (rules_with n (filter (has_name name) new.entries))) same_d
    ∙ ap (λ a. permits_no_more (rules_of name base) (rules_with a (filter (has_name name) new.entries))) same_n
