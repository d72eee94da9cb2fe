-- What ranks say of the entries that they are of.
use Rattle.std.proofs.Common.{◌≡◌, ◌∙◌, ap, refl, sym, ℕ, ◌+◌, ◌<◌, ◌≤◌, List, [], ◌∷◌, ◌++◌, Bool, true, false, not, ◌||◌, ◌&&◌, Some, None, cond, filter, get_or, length, subst, take, nat_le, nat_lt, inl, inr, arith}
use Rattle.std.specs.List.{list_all, list_any}
use Rattle.std.proofs.lemmas.Bool.{and_from, and_parts, cases_lt, false_from_ne_true, le-leb, le-ltb, lt-leb, or_from, or_left, or_cases, both_ways}
use Rattle.std.proofs.lemmas.Bool.Decides.{nat_tests}
use Rattle.std.proofs.lemmas.List.{take_more}
use Rattle.std.proofs.lemmas.List.Elements.{filter-append}
use Rattle.seccomp_doc.specs.Meaning.{has_name}
use Rattle.seccomp_doc.specs.declared.action.Action.{Action}
use Rattle.seccomp_doc.specs.declared.action.Action.TheVariants.{KillProcess, KillThread, Trap, Errno, Trace, Log, Allow}
use Rattle.seccomp_doc.specs.Action.{rank_of}
use Rattle.seccomp_doc.specs.Filter.{EntryValue}
use Rattle.implication.specs.Implication.{entry_implies}
use Rattle.widening.specs.declared.ranks.Ranks.{Ranks}
use Rattle.widening.specs.declared.ranks.Span.{Span}
use Rattle.widening.specs.Calls.{Rules, entry_rank, is_at_most_entries, is_at_most_possible, is_covered, is_default_covered, is_kept, is_plain}
use Rattle.widening.specs.Groups.{entries_at}
use Rattle.widening.specs.Ranks.{AreRanksOf, do_imply, is_in, rules_with}
use Rattle.widening.proofs.GroupFacts.{entries_at-more}
use Rattle.widening.proofs.Searches.{and_true}

pub rank-most : (a : Action) → rank_of a ≤ 6
rank-most KillProcess = omega arith
rank-most KillThread = omega arith
rank-most Trap = omega arith
rank-most (Errno n) = omega arith
rank-most (Trace n) = omega arith
rank-most Log = omega arith
rank-most Allow = omega arith

-- ---- tests of lists

-- two tests that agree where a third passes
list_all-same : {X : Type 0} (p q r : X → Bool) → ((x : X) → r x ≡ true → p x ≡ q x) → (xs : List X) → list_all r xs ≡ true → list_all p xs ≡ list_all q xs
list_all-same p q r same [] all = refl
list_all-same p q r same (x ∷ xs) all =
    let parts = and_parts (r x) (list_all r xs) all in
    ap (λ b. b && list_all p xs) (same x parts.0) ∙ ap (λ b. q x && b) (list_all-same p q r same xs parts.1)

list_all-weaker : {X : Type 0} (p q : X → Bool) → ((x : X) → p x ≡ true → q x ≡ true) → (xs : List X) → list_all p xs ≡ true → list_all q xs ≡ true
list_all-weaker p q weaker [] all = refl
list_all-weaker p q weaker (x ∷ xs) all =
    let parts = and_parts (p x) (list_all p xs) all in and_from (q x) (list_all q xs) (weaker x parts.0) (list_all-weaker p q weaker xs parts.1)

list_all-each : {X : Type 0} (p : X → Bool) → ((x : X) → p x ≡ true) → (xs : List X) → list_all p xs ≡ true
list_all-each p each [] = refl
list_all-each p each (x ∷ xs) = and_from (p x) (list_all p xs) (each x) (list_all-each p each xs)

-- ---- what has to imply

possible_is : (ranks : Ranks) (rules : Rules) → AreRanksOf ranks rules → (rank : ℕ) → rank ≤ 6 →
    is_at_most_possible rank rules ≡ (nat_le rank ranks.least && (ranks.has_plain || nat_le rank ranks.default))
possible_is ranks rules are rank small =
    ap (λ b. b && (list_any is_plain rules.entries || nat_le rank (rank_of rules.default))) (sym (are.least rank small))
    ∙ ap (λ b. nat_le rank ranks.least && (b || nat_le rank (rank_of rules.default))) (sym are.plain)
    ∙ ap (λ n. nat_le rank ranks.least && (ranks.has_plain || nat_le rank n)) (sym are.default)

-- the least possible rank: that of the entries, where one compares no argument or the default's is no lower; else the default's
pub possible_plain : (ranks : Ranks) → ranks.has_plain ≡ true → (rules : Rules) → AreRanksOf ranks rules → (rank : ℕ) → rank ≤ 6 → nat_le rank ranks.least ≡ is_at_most_possible rank rules
possible_plain ranks plain rules are rank small =
    sym (possible_is ranks rules are rank small ∙ ap (λ b. nat_le rank ranks.least && (b || nat_le rank ranks.default)) plain ∙ and_true (nat_le rank ranks.least))

lower_both : (rank low high : ℕ) → low ≤ high → nat_le rank low ≡ (nat_le rank low && nat_le rank high)
lower_both rank low high below = elim (cases_lt low rank) as (λ _. nat_le rank low ≡ (nat_le rank low && nat_le rank high)) [
  | inl above ↦ let no = lt-leb rank low above in no ∙ sym (ap (λ b. b && nat_le rank high) no)
  | inr within ↦ let yes = le-leb rank low within in yes ∙ sym (ap (λ b. b && nat_le rank high) yes ∙ le-leb rank high (omega (arith, within, below)))
]

and_swap : (a b : Bool) → (a && b) ≡ (b && a)
and_swap true true = refl
and_swap true false = refl
and_swap false true = refl
and_swap false false = refl

pub possible_entries : (ranks : Ranks) → ranks.has_plain ≡ false → ranks.least < ranks.default → (rules : Rules) → AreRanksOf ranks rules → (rank : ℕ) → rank ≤ 6 → nat_le rank ranks.least ≡ is_at_most_possible rank rules
possible_entries ranks plain lower rules are rank small =
    lower_both rank ranks.least ranks.default (omega (arith, lower))
    ∙ sym (possible_is ranks rules are rank small ∙ ap (λ b. nat_le rank ranks.least && (b || nat_le rank ranks.default)) plain)

pub possible_default : (ranks : Ranks) → ranks.has_plain ≡ false → ranks.default ≤ ranks.least → (rules : Rules) → AreRanksOf ranks rules → (rank : ℕ) → rank ≤ 6 → nat_le rank ranks.default ≡ is_at_most_possible rank rules
possible_default ranks plain lower rules are rank small =
    lower_both rank ranks.default ranks.least lower ∙ and_swap (nat_le rank ranks.default) (nat_le rank ranks.least)
    ∙ sym (possible_is ranks rules are rank small ∙ ap (λ b. nat_le rank ranks.least && (b || nat_le rank ranks.default)) plain)

-- what the least possible rank says
abbrev Tells : Ranks → ℕ → Type 0
Tells base possible = (rules : Rules) → AreRanksOf base rules → (rank : ℕ) → rank ≤ 6 → nat_le rank possible ≡ is_at_most_possible rank rules

module _ (base new : Ranks) (possible : ℕ) (tells : Tells base possible)
    (b n : Rules) (of_base : AreRanksOf base b) (of_new : AreRanksOf new n) where
  possible_at : (e : EntryValue) → nat_le (entry_rank e) possible ≡ is_at_most_possible (entry_rank e) b
  possible_at e = tells b of_base (entry_rank e) (rank-most e.action)

  least_at : (e : EntryValue) → nat_le (entry_rank e) base.least ≡ is_at_most_entries (entry_rank e) b.entries
  least_at e = of_base.least (entry_rank e) (rank-most e.action)

  covered_is : (e : EntryValue) → is_covered b e ≡ (nat_le (entry_rank e) possible || (nat_le (entry_rank e) base.least && list_any (entry_implies e) b.entries))
  covered_is e =
      ap (λ x. x || (is_at_most_entries (entry_rank e) b.entries && list_any (entry_implies e) b.entries)) (sym (possible_at e))
      ∙ ap (λ x. nat_le (entry_rank e) possible || (x && list_any (entry_implies e) b.entries)) (sym (least_at e))

  -- no entry is asked
  pub none_asked : (span : Span) → span.first ≡ 0 → span.end ≡ 0 → (entries others : List EntryValue) → do_imply (Some span) entries others ≡ true
  none_asked span first end entries others =
      list_all-each (λ e. not (is_in span e) || list_any (entry_implies e) others) (λ e.
      or_left (not (is_in span e)) (list_any (entry_implies e) others)
      (ap (λ x. not (nat_le span.first (entry_rank e) && nat_lt (entry_rank e) x)) end
      ∙ ap (λ b. not (nat_le span.first (entry_rank e) && b)) (le-ltb (entry_rank e) 0 (omega arith))
      ∙ ap not (and_swap (nat_le span.first (entry_rank e)) false))) entries

  -- each new entry has a possible rank
  pub all_possible : new.greatest ≤ possible → list_all (is_covered b) n.entries ≡ true
  all_possible low =
      list_all-weaker (λ e. nat_le (entry_rank e) possible) (is_covered b) (λ e here. covered_is e ∙ or_left (nat_le (entry_rank e) possible) _ here)
      n.entries (sym (of_new.greatest possible) ∙ le-leb new.greatest possible low)

  -- a new entry has a greater rank than one of the baseline's
  pub one_above : base.least < new.greatest → list_all (is_covered b) n.entries ≡ false
  one_above above = false_from_ne_true (list_all (is_covered b) n.entries) (λ all.
      both_ways (nat_le new.greatest base.least) (lt-leb new.greatest base.least above)
      (of_new.greatest base.least ∙ list_all-weaker (is_covered b) (λ e. nat_le (entry_rank e) base.least) (λ e covered.
      elim (or_cases (is_at_most_possible (entry_rank e) b) _ covered) as (λ _. nat_le (entry_rank e) base.least ≡ true) [
        | inl low ↦ least_at e ∙ (and_parts (is_at_most_entries (entry_rank e) b.entries) _ low).0
        | inr low ↦ least_at e ∙ (and_parts (is_at_most_entries (entry_rank e) b.entries) _ low).0
      ]) n.entries all))

  -- those above the possible ranks have to imply one
  pub above_imply : (span : Span) → span.first ≡ possible + 1 → span.end ≡ 7 → new.greatest ≤ base.least →
      list_all (is_covered b) n.entries ≡ do_imply (Some span) n.entries b.entries
  above_imply span first end most =
      list_all-same (is_covered b) (λ e. not (is_in span e) || list_any (entry_implies e) b.entries) (λ e. nat_le (entry_rank e) base.least) (λ e low.
      let some = list_any (entry_implies e) b.entries in
      let asked : not (is_in span e) ≡ nat_le (entry_rank e) possible = let small = rank-most e.action in grind (arith, nat_tests, small, first, end) in
      covered_is e
      ∙ ap (λ x. nat_le (entry_rank e) possible || (x && some)) low
      ∙ ap (λ x. x || some) (sym asked))
      n.entries (sym (of_new.greatest base.least) ∙ le-leb new.greatest base.least most)

  -- ---- the default

  plain_is : list_any is_plain n.entries ≡ new.has_plain
  plain_is = sym of_new.plain

  default_possible : is_at_most_possible (rank_of n.default) b ≡ nat_le new.default possible
  default_possible = sym (tells b of_base (rank_of n.default) (rank-most n.default)) ∙ ap (λ x. nat_le x possible) (sym of_new.default)

  pub default_free : (new.has_plain || nat_le new.default possible) ≡ true → is_default_covered b n ≡ true
  default_free free =
      or_left (list_any is_plain n.entries || is_at_most_possible (rank_of n.default) b) _
      (ap (λ x. x || is_at_most_possible (rank_of n.default) b) plain_is ∙ ap (λ x. new.has_plain || x) default_possible ∙ free)

  not_free : (new.has_plain || nat_le new.default possible) ≡ false →
      is_default_covered b n ≡ (nat_le new.default base.default && list_all (is_kept n) b.entries)
  not_free bound =
      ap (λ x. x || (nat_le (rank_of n.default) (rank_of b.default) && list_all (is_kept n) b.entries))
      (ap (λ x. x || is_at_most_possible (rank_of n.default) b) plain_is ∙ ap (λ x. new.has_plain || x) default_possible ∙ bound)
      ∙ ap (λ x. nat_le x (rank_of b.default) && list_all (is_kept n) b.entries) (sym of_new.default)
      ∙ ap (λ x. nat_le new.default x && list_all (is_kept n) b.entries) (sym of_base.default)

  pub default_above : (new.has_plain || nat_le new.default possible) ≡ false → base.default < new.default → is_default_covered b n ≡ false
  default_above bound above = not_free bound ∙ ap (λ x. x && list_all (is_kept n) b.entries) (lt-leb new.default base.default above)

  pub stricter_imply : (span : Span) → span.first ≡ 0 → span.end ≡ new.default → (new.has_plain || nat_le new.default possible) ≡ false → new.default ≤ base.default →
      is_default_covered b n ≡ do_imply (Some span) b.entries n.entries
  stricter_imply span first end bound most =
      not_free bound ∙ ap (λ x. x && list_all (is_kept n) b.entries) (le-leb new.default base.default most)
      ∙ list_all-same (is_kept n) (λ e. not (is_in span e) || list_any (entry_implies e) n.entries) (λ _. true) (λ e _.
      let asked : not (is_in span e) ≡ nat_le (rank_of n.default) (entry_rank e) = let same = of_new.default in grind (arith, nat_tests, first, end, same) in
      ap (λ x. x || list_any (entry_implies e) n.entries) (sym asked))
      b.entries (list_all-each (λ _. true) (λ _. refl) b.entries)

-- ---- what is asked

abbrev no_rank : Span
no_rank = record { first = 0; end = 0 }

pub new_are_possible : (base new : Ranks) (possible : ℕ) → Tells base possible → new.greatest ≤ possible →
    (b n : Rules) → AreRanksOf base b → AreRanksOf new n → list_all (is_covered b) n.entries ≡ do_imply (Some (record { first = 0; end = 0 })) n.entries b.entries
new_are_possible base new possible tells low b n of_base of_new =
    all_possible base new possible tells b n of_base of_new low ∙ sym (none_asked base new possible tells b n of_base of_new no_rank refl refl n.entries b.entries)

pub new_are_above : (base new : Ranks) → base.least < new.greatest → (possible : ℕ) → Tells base possible →
    (b n : Rules) → AreRanksOf base b → AreRanksOf new n → list_all (is_covered b) n.entries ≡ do_imply None n.entries b.entries
new_are_above base new above possible tells b n of_base of_new = one_above base new possible tells b n of_base of_new above

pub new_must_imply : (base new : Ranks) (possible : ℕ) → Tells base possible → new.greatest ≤ base.least →
    (b n : Rules) → AreRanksOf base b → AreRanksOf new n → list_all (is_covered b) n.entries ≡ do_imply (Some (record { first = possible + 1; end = 7 })) n.entries b.entries
new_must_imply base new possible tells most b n of_base of_new = above_imply base new possible tells b n of_base of_new (record { first = possible + 1; end = 7 }) refl refl most

pub default_is_possible : (base new : Ranks) (possible : ℕ) → Tells base possible → (new.has_plain || nat_le new.default possible) ≡ true →
    (b n : Rules) → AreRanksOf base b → AreRanksOf new n → is_default_covered b n ≡ do_imply (Some (record { first = 0; end = 0 })) b.entries n.entries
default_is_possible base new possible tells free b n of_base of_new =
    default_free base new possible tells b n of_base of_new free
    ∙ sym (none_asked base new possible tells b n of_base of_new no_rank refl refl b.entries n.entries)

pub default_is_above : (base new : Ranks) (possible : ℕ) → Tells base possible → new.has_plain ≡ false → possible < new.default → base.default < new.default →
    (b n : Rules) → AreRanksOf base b → AreRanksOf new n → is_default_covered b n ≡ do_imply None b.entries n.entries
default_is_above base new possible tells plain high above b n of_base of_new =
    default_above base new possible tells b n of_base of_new (or_from new.has_plain (nat_le new.default possible) plain (lt-leb new.default possible high)) above

pub stricter_must_imply : (base new : Ranks) (possible : ℕ) → Tells base possible → new.has_plain ≡ false → possible < new.default → new.default ≤ base.default →
    (b n : Rules) → AreRanksOf base b → AreRanksOf new n → is_default_covered b n ≡ do_imply (Some (record { first = 0; end = new.default })) b.entries n.entries
stricter_must_imply base new possible tells plain high most b n of_base of_new =
    stricter_imply base new possible tells b n of_base of_new (record { first = 0; end = new.default }) refl refl
    (or_from new.has_plain (nat_le new.default possible) plain (lt-leb new.default possible high)) most

-- ---- the test of a name by what is asked

-- where the first of two tests passes, and where it fails
pub and_then : (a b r : Bool) → r ≡ (a && b) → a ≡ true → b ≡ r
and_then a b r e t = sym (e ∙ ap (λ x. x && b) t)

pub and_else : (a b r : Bool) → r ≡ (a && b) → a ≡ false → a ≡ r
and_else a b r e f = f ∙ sym (e ∙ ap (λ x. x && b) f)

-- ---- an entry more

pub named_with : (ranks new : Ranks) (name : List ℕ) (e : EntryValue) → has_name name e ≡ true →
    ((d : Action) (ds : List EntryValue) → AreRanksOf ranks (rules_with d ds) → AreRanksOf new (rules_with d (ds ++ e ∷ []))) →
    (d : Action) (ds : List EntryValue) → AreRanksOf ranks (rules_with d (filter (has_name name) ds)) → AreRanksOf new (rules_with d (filter (has_name name) (ds ++ e ∷ [])))
named_with ranks new name e has adds d ds before =
    subst (λ es. AreRanksOf new (rules_with d es)) (ap (λ b. filter (has_name name) ds ++ cond b (e ∷ []) []) (sym has) ∙ sym (filter-append (has_name name) ds (e ∷ [])))
    (adds d (filter (has_name name) ds) before)

pub named_more : (ranks new : Ranks) (name : List ℕ) (default : Action) (es : List EntryValue) (i : ℕ) (e : EntryValue) → i < length es → e ≡ get_or es i e →
    ((d : Action) (ds : List EntryValue) → AreRanksOf ranks (rules_with d (filter (has_name name) ds)) → AreRanksOf new (rules_with d (filter (has_name name) (ds ++ e ∷ [])))) →
    AreRanksOf ranks (rules_with default (filter (has_name name) (take i es))) → AreRanksOf new (rules_with default (filter (has_name name) (take (i + 1) es)))
named_more ranks new name default es i e within is adds before =
    subst (λ ds. AreRanksOf new (rules_with default (filter (has_name name) ds))) (ap (λ d. take i es ++ d ∷ []) is ∙ sym (take_more es i e within)) (adds default (take i es) before)

pub place_more : (ranks new : Ranks) (default : Action) (es : List EntryValue) (places : List ℕ) (i place : ℕ) (e : EntryValue) → i < length places → place ≡ get_or places i place →
    place < length es → e ≡ get_or es place e →
    ((d : Action) (ds : List EntryValue) → AreRanksOf ranks (rules_with d ds) → AreRanksOf new (rules_with d (ds ++ e ∷ []))) →
    AreRanksOf ranks (rules_with default (entries_at es (take i places))) → AreRanksOf new (rules_with default (entries_at es (take (i + 1) places)))
place_more ranks new default es places i place e within is place_within e_is adds before =
    subst (λ ds. AreRanksOf new (rules_with default ds)) (sym (entries_at-more es places i place e within is place_within e_is)) (adds default (entries_at es (take i places)) before)
