-- The filter that a document names is a lawful one.
use Rattle.std.proofs.Common.{◌≡◌, ◌∙◌, ℕ, ◌^◌, ◌<◌, inl, inr, List, [], ◌∷◌, ◌++◌, All, Contains, map, length, Bool, true, false, cond, not, ◌&&◌, Option, Some, None, bytes_eq, refl, sym, ap, subst, arith, append_assoc, append-nil, nat_lt, ltb-false, ltb-true, lit<}
use Rattle.std.specs.List.{list_any, flat_map}
use Rattle.std.specs.Prelude.{◌||◌, IfSome, codes, unwrap_or}
use Rattle.std.proofs.lemmas.Bool.{eqb-false}
use Rattle.std.proofs.lemmas.List.Elements.{All-nil, All-cons, All-head, All-tail, All-map, All-contains, Contains-push_cases}
use Rattle.serde_json.specs.Data.{Num, unsigned, negative, float, Data, null, boolean, number, string, array, object, Items, no_items, item, Members}
use Rattle.seccomp_doc.specs.declared.action.Action.{Action}
use Rattle.seccomp_doc.specs.declared.action.ActionWord.{ActionWord}
use Rattle.seccomp_doc.specs.declared.action.ActionWord.TheVariants as words
use Rattle.seccomp_doc.specs.declared.compare.Compare.{Compare}
use Rattle.seccomp_doc.specs.declared.fault.FilterFault.TheVariants.{TooMany}
use Rattle.seccomp_doc.specs.declared.parts.ArgParts.{ArgParts}
use Rattle.seccomp_doc.specs.Action.{same_action}
use Rattle.seccomp_doc.specs.Checks.{Check, all_name_checks, contradicts, entry_checks, errno_checks, fault_of, first_fault, has_too_many, name_check, name_checks}
use Rattle.seccomp_doc.specs.Compare.{is_masked}
use Rattle.seccomp_doc.specs.Filter.{EntryValue, FilterValue}
use Rattle.seccomp_doc.specs.Lawful.{HasOneAction, IsLawfulFilter, IsLawfulAction, IsLawfulCompare, IsLawfulEntry, has_repeat}
use Rattle.seccomp_doc.specs.Meaning.{has_name}
use Rattle.seccomp_doc.specs.Parts.{EntryPartsValue, FilterPartsValue, action_of, compare_of, entry_of, filter_of}
use Rattle.seccomp_doc.specs.Word.{is_call_name, is_arch, is_flag}
use Rattle.seccomp_doc.proofs.EntryFacts.{all_pass, both_false, not_false}
use Rattle.seccomp_doc.proofs.FilterFacts.{lawful_filter}
use Rattle.seccomp_doc.proofs.SameAction.{same_action_is}
use Rattle.profile_text.specs.FilterParts.{u64_of}
use Rattle.profile_text.specs.FilterReads.{AreItems, IsArg, IsEntry, IsFilter, IsList, IsListOrNull, IsNumber, IsSeccomp, IsTextOf, Makes, MembersAreFilter, Optional, OrNull, Required, StandsForFilter}
use Rattle.profile_text.specs.Reads.{IsWhole}
use Rattle.profile_text.specs.Shape.{member_of}
use Rattle.profile_text.proofs.Picks.{same_name}

-- ---- checks that passed

abbrev AllPass : List Check → Type 0
AllPass [] = Unit {0}
AllPass (c ∷ cs) = (c.1 ≡ false) × AllPass cs

all_passed : (cs : List Check) → first_fault cs ≡ None → AllPass cs
all_passed [] e = tt
all_passed ((fault, true) ∷ cs) e = absurd (cc)
all_passed ((fault, false) ∷ cs) e = (refl, all_passed cs e)

both_passed : (before after : List Check) → first_fault (before ++ after) ≡ None → (first_fault before ≡ None) × (first_fault after ≡ None)
both_passed [] after e = (refl, e)
both_passed ((fault, true) ∷ before) after e = absurd (cc)
both_passed ((fault, false) ∷ before) after e = both_passed before after e

-- ---- actions

small_errno : (n m : ℕ) → nat_lt 65535 m ≡ false → ◌≡◌ {A = Option ℕ} (Some m) (Some n) → n < 2 ^ 16
small_errno n m h e = let same : m ≡ n = cc in let small = ltb-false 65535 m h in omega arith

errno_lawful : (word : ActionWord) (errno : Option ℕ) → AllPass (errno_checks word errno) → IsLawfulAction (action_of word errno)
errno_lawful words.KillProcess errno passed n e = absurd (cc)
errno_lawful words.KillThread errno passed n e = absurd (cc)
errno_lawful words.Trap errno passed n e = absurd (cc)
errno_lawful words.Errno errno passed n e = small_errno n (unwrap_or errno 1) passed.1.0 e
errno_lawful words.Trace errno passed n e = small_errno n (unwrap_or errno 1) passed.1.0 e
errno_lawful words.Log errno passed n e = absurd (cc)
errno_lawful words.Allow errno passed n e = absurd (cc)

-- ---- entries

-- the numbers of a comparison have 64 bits
pub record IsSmall (a : ArgParts) : Type 0 where
  pub value : a.value < 2 ^ 64
  pub value_two : a.value_two < 2 ^ 64

two_small : (b : Bool) (two : ℕ) → two < 2 ^ 64 → cond b two 0 < 2 ^ 64
two_small true two h = h
two_small false two h = lit< tt

two_unused : (b : Bool) (two : ℕ) → b ≡ false → cond b two 0 ≡ 0
two_unused true two e = absurd (cc)
two_unused false two e = refl

compares_lawful : (args : List ArgParts) → list_any (λ a. nat_lt 5 a.index) args ≡ false → All IsSmall args → All (λ a. IsLawfulCompare (compare_of a)) args
compares_lawful [] low small = All-nil (λ (a : ArgParts). IsLawfulCompare (compare_of a))
compares_lawful (a ∷ args) low small =
    let here = both_false (nat_lt 5 a.index) (list_any (λ (x : ArgParts). nat_lt 5 x.index) args) low in
    let own = All-head IsSmall a args small in
    let index = ltb-false 5 a.index here.0 in
    All-cons (λ (x : ArgParts). IsLawfulCompare (compare_of x)) a args
    (record { index = omega arith; value = own.value; value_two = two_small (is_masked a.op) a.value_two own.value_two; unused = two_unused (is_masked a.op) a.value_two })
    (compares_lawful args here.1 (All-tail IsSmall a args small))

indexes_kept : (args : List ArgParts) → map (λ (c : Compare). c.index) (map compare_of args) ≡ map (λ (a : ArgParts). a.index) args
indexes_kept [] = refl
indexes_kept (a ∷ args) = ap (λ ns. a.index ∷ ns) (indexes_kept args)

entry_lawful : (e : EntryPartsValue) → All IsSmall e.args → first_fault (entry_checks e) ≡ None → IsLawfulEntry (entry_of e)
entry_lawful e small none =
    let passed = all_passed (entry_checks e) none in
    let some = eqb-false (length e.names) 0 passed.0 in
    record {
      named = omega arith;
      names = all_pass is_call_name e.names passed.1.0;
      action = errno_lawful e.word e.errno passed.1.1.1.1;
      args = All-map IsLawfulCompare compare_of e.args (compares_lawful e.args passed.1.1.0 small);
      once = ap has_repeat (indexes_kept e.args) ∙ passed.1.1.1.0;
    }

entries_lawful : (es : List EntryPartsValue) → All (λ e. All IsSmall e.args) es → first_fault (flat_map entry_checks es) ≡ None → All IsLawfulEntry (map entry_of es)
entries_lawful [] small none = All-nil IsLawfulEntry
entries_lawful (e ∷ es) small none =
    let parts = both_passed (entry_checks e) (flat_map entry_checks es) none in
    All-cons IsLawfulEntry (entry_of e) (map entry_of es)
    (entry_lawful e (All-head (λ (x : EntryPartsValue). All IsSmall x.args) e es small) parts.0)
    (entries_lawful es (All-tail (λ (x : EntryPartsValue). All IsSmall x.args) e es small) parts.1)

-- ---- names

no_contradiction : (name : List ℕ) (action : Action) (es : List EntryValue) → list_any (contradicts name action) es ≡ false → All (λ d. has_name name d ≡ true → d.action ≡ action) es
no_contradiction name action [] none = All-nil (λ (d : EntryValue). has_name name d ≡ true → d.action ≡ action)
no_contradiction name action (d ∷ es) none =
    let parts = both_false (contradicts name action d) (list_any (contradicts name action) es) none in
    All-cons (λ (x : EntryValue). has_name name x ≡ true → x.action ≡ action) d es
    (λ has. same_action_is d.action action (not_false _ (sym (ap (λ b. b && not (same_action d.action action)) has) ∙ parts.0)))
    (no_contradiction name action es parts.1)

passed_by : (earlier : List EntryValue) (action : Action) (names : List (List ℕ)) (name key : List ℕ) (b : Bool) → bytes_eq name key ≡ b → list_any (contradicts key action) earlier ≡ false
    → (list_any (bytes_eq name) names ≡ true → list_any (contradicts name action) earlier ≡ false) → (b || list_any (bytes_eq name) names) ≡ true → list_any (contradicts name action) earlier ≡ false
passed_by earlier action names name key true is passed rest has = subst (λ n. list_any (contradicts n action) earlier ≡ false) (sym (same_name name key is)) passed
passed_by earlier action names name key false is passed rest has = rest has

name_passed : (earlier : List EntryValue) (action : Action) (names : List (List ℕ)) (name : List ℕ) → AllPass (map (name_check earlier action) names) → list_any (bytes_eq name) names ≡ true
    → list_any (contradicts name action) earlier ≡ false
name_passed earlier action [] name passed has = absurd (cc)
name_passed earlier action (key ∷ names) name passed has =
    passed_by earlier action names name key (bytes_eq name key) refl passed.0 (name_passed earlier action names name passed.1) has

agrees : (earlier : List EntryValue) (e : EntryValue) → first_fault (name_checks earlier e) ≡ None → (name : List ℕ) (x : EntryValue) → Contains earlier x → has_name name x ≡ true → has_name name e ≡ true → x.action ≡ e.action
agrees earlier e none name x in_x has_x has_e =
    let passed = name_passed earlier e.action e.names name (all_passed (name_checks earlier e) none) has_e in
    All-contains (λ (d : EntryValue). has_name name d ≡ true → d.action ≡ e.action) earlier x (no_contradiction name e.action earlier passed) in_x has_x

one_more : (earlier : List EntryValue) (e : EntryValue) → HasOneAction earlier → first_fault (name_checks earlier e) ≡ None → HasOneAction (earlier ++ e ∷ [])
one_more earlier e one none c d at_c at_d name has_c has_d =
    elim (Contains-push_cases earlier e c at_c) as (λ _. c.action ≡ d.action) [
      | inl in_c ↦ elim (Contains-push_cases earlier e d at_d) as (λ _. c.action ≡ d.action) [
        | inl in_d ↦ one c d in_c in_d name has_c has_d
        | inr is_d ↦ agrees earlier e none name c in_c has_c (subst (λ x. has_name name x ≡ true) (sym is_d) has_d) ∙ ap (λ (x : EntryValue). x.action) is_d
      ]
      | inr is_c ↦ elim (Contains-push_cases earlier e d at_d) as (λ _. c.action ≡ d.action) [
        | inl in_d ↦ ap (λ (x : EntryValue). x.action) (sym is_c) ∙ sym (agrees earlier e none name d in_d has_d (subst (λ x. has_name name x ≡ true) (sym is_c) has_c))
        | inr is_d ↦ ap (λ (x : EntryValue). x.action) (sym is_c ∙ is_d)
      ]
    ]

all_one : (earlier es : List EntryValue) → HasOneAction earlier → first_fault (all_name_checks earlier es) ≡ None → HasOneAction (earlier ++ es)
unfolding all_name_checks
all_one earlier [] one none = subst HasOneAction (sym (append-nil earlier)) one
all_one earlier (e ∷ es) one none =
    let parts = both_passed (name_checks earlier e) (all_name_checks (earlier ++ e ∷ []) es) none in
    subst HasOneAction (append_assoc earlier (e ∷ []) es) (all_one (earlier ++ e ∷ []) es (one_more earlier e one parts.0) parts.1)

no_entries : HasOneAction []
no_entries d e at_d at_e name has_d has_e = absurd (omega (arith, at_d.1))

-- ---- the whole

pub made_lawful : (p : FilterPartsValue) → All (λ e. All IsSmall e.args) p.entries → fault_of p ≡ None → IsLawfulFilter (filter_of p)
unfolding fault_of
made_lawful p small none =
    let head : List Check = ((TooMany, has_too_many p) ∷ []) ++ errno_checks p.default p.default_errno in
    let names = both_passed (head ++ flat_map entry_checks p.entries) (all_name_checks [] (map entry_of p.entries)) none in
    let entries = both_passed head (flat_map entry_checks p.entries) names.0 in
    let first = all_passed head entries.0 in
    lawful_filter p (action_of p.default p.default_errno) (map entry_of p.entries) first.0 (errno_lawful p.default p.default_errno first.1) refl
    (entries_lawful p.entries small entries.1) (all_one [] (map entry_of p.entries) no_entries names.1)

-- ---- what the values of a document are

number_by : (m n : ℕ) (b : Bool) → nat_lt m (2 ^ 64) ≡ b → ◌≡◌ {A = Option ℕ} (cond b (Some m) None) (Some n) → n < 2 ^ 64
number_by m n true is e = let same : m ≡ n = cc in subst (λ (x : ℕ). x < 2 ^ 64) same (ltb-true m (2 ^ 64) is)
number_by m n false is e = absurd (cc)

u64_small : (x : Num) (n : ℕ) → u64_of x ≡ Some n → n < 2 ^ 64
unfolding u64_of
u64_small (unsigned m) n e = number_by m n (nat_lt m (2 ^ 64)) refl e
u64_small (negative z) n e = absurd (cc)
u64_small (float x) n e = absurd (cc)

number_small : (d : Data) (n : ℕ) → IsNumber d n → n < 2 ^ 64
number_small (number x) n h = u64_small x n h
number_small null n h = absurd h
number_small (boolean b) n h = absurd h
number_small (string s) n h = absurd h
number_small (array ds) n h = absurd h
number_small (object ms) n h = absurd h

required_holds : {X : Type 0} (R : Data → X → Type 0) (P : X → Type 0) → ((d : Data) (x : X) → R d x → P x) → (o : Option Data) (x : X) → Required R o x → P x
required_holds R P each None x h = absurd h
required_holds R P each (Some d) x h = each d x h

null_holds : {X : Type 0} (R : Data → X → Type 0) (P : X → Type 0) (absent : X) → P absent → ((d : Data) (x : X) → R d x → P x) → (d : Data) (x : X) → OrNull R absent d x → P x
null_holds R P absent none each null x h = subst P (sym h) none
null_holds R P absent none each (boolean b) x h = each (boolean b) x h
null_holds R P absent none each (number n) x h = each (number n) x h
null_holds R P absent none each (string s) x h = each (string s) x h
null_holds R P absent none each (array ds) x h = each (array ds) x h
null_holds R P absent none each (object ms) x h = each (object ms) x h

optional_holds : {X : Type 0} (R : Data → X → Type 0) (P : X → Type 0) (absent : X) → P absent → ((d : Data) (x : X) → R d x → P x) → (o : Option Data) (x : X) → Optional R absent o x → P x
optional_holds R P absent none each None x h = subst P (sym h) none
optional_holds R P absent none each (Some d) x h = each d x h

items_hold : {X : Type 0} (R : Data → X → Type 0) (P : X → Type 0) → ((d : Data) (x : X) → R d x → P x) → (ds : Items) (xs : List X) → AreItems R ds xs → All P xs
items_hold R P each no_items [] h = All-nil P
items_hold R P each no_items (x ∷ xs) h = absurd h
items_hold R P each (item d ds) [] h = absurd h
items_hold R P each (item d ds) (x ∷ xs) h = All-cons P x xs (each d x h.0) (items_hold R P each ds xs h.1)

list_holds : {X : Type 0} (R : Data → X → Type 0) (P : X → Type 0) → ((d : Data) (x : X) → R d x → P x) → (d : Data) (xs : List X) → IsList R d xs → All P xs
list_holds R P each (array ds) xs h = items_hold R P each ds xs h
list_holds R P each null xs h = absurd h
list_holds R P each (boolean b) xs h = absurd h
list_holds R P each (number n) xs h = absurd h
list_holds R P each (string s) xs h = absurd h
list_holds R P each (object ms) xs h = absurd h

-- what holds of each item holds of all of a list that may be absent
all_hold : {X : Type 0} (R : Data → X → Type 0) (P : X → Type 0) → ((d : Data) (x : X) → R d x → P x) → (o : Option Data) (xs : List X) → Optional (IsListOrNull R) [] o xs → All P xs
all_hold R P each o xs h =
    optional_holds (IsListOrNull R) (λ ys. All P ys) [] (All-nil P) (null_holds (IsList R) (λ ys. All P ys) [] (All-nil P) (list_holds R P each)) o xs h

arg_small : (d : Data) (a : ArgParts) → IsArg d a → IsSmall a
arg_small (object ms) a h = record {
  value = required_holds IsNumber (λ n. n < 2 ^ 64) number_small (member_of (codes "value") ms) a.value h.value;
  value_two = optional_holds (OrNull IsNumber 0) (λ n. n < 2 ^ 64) 0 (lit< tt) (null_holds IsNumber (λ n. n < 2 ^ 64) 0 (lit< tt) number_small) (member_of (codes "valueTwo") ms) a.value_two h.value_two;
}
arg_small null a h = absurd h
arg_small (boolean b) a h = absurd h
arg_small (number n) a h = absurd h
arg_small (string s) a h = absurd h
arg_small (array ds) a h = absurd h

entry_small : (d : Data) (e : EntryPartsValue) → IsEntry d e → All IsSmall e.args
entry_small (object ms) e h = all_hold IsArg IsSmall arg_small (member_of (codes "args") ms) e.args h.args
entry_small null e h = absurd h
entry_small (boolean b) e h = absurd h
entry_small (number n) e h = absurd h
entry_small (string s) e h = absurd h
entry_small (array ds) e h = absurd h

of_form : (form : List ℕ → Bool) (d : Data) (text : List ℕ) → IsTextOf form d text → form text ≡ true
of_form form (string s) text h = rw h.1 h.0
of_form form null text h = absurd h
of_form form (boolean b) text h = absurd h
of_form form (number n) text h = absurd h
of_form form (array ds) text h = absurd h
of_form form (object ms) text h = absurd h

whole_of : (ms : Members) (p : FilterPartsValue) → MembersAreFilter ms p → fault_of p ≡ None → IsWhole (filter_of p)
whole_of ms p h none = record {
  lawful = made_lawful p (all_hold IsEntry (λ e. All IsSmall e.args) entry_small (member_of (codes "syscalls") ms) p.entries h.entries) none;
  architectures = all_hold (IsTextOf is_arch) (λ a. is_arch a ≡ true) (of_form is_arch) (member_of (codes "architectures") ms) p.architectures h.architectures;
  flags = all_hold (IsTextOf is_flag) (λ a. is_flag a ≡ true) (of_form is_flag) (member_of (codes "flags") ms) p.flags h.flags;
}

-- a filter that a document names is whole, or there is none
abbrev pub IsNoneOrWhole : Option FilterValue → Type 0
IsNoneOrWhole filter = IfSome filter IsWhole

abbrev MakesWhole : Option FilterPartsValue → Type 0
MakesWhole None = Unit {0}
MakesWhole (Some p) = fault_of p ≡ None → IsWhole (filter_of p)

filter_whole : (d : Data) (p : Option FilterPartsValue) → IsFilter d p → MakesWhole p
filter_whole (object ms) (Some p) h = whole_of ms p h
filter_whole (object ms) None h = absurd h
filter_whole null p h = absurd h
filter_whole (boolean b) p h = absurd h
filter_whole (number n) p h = absurd h
filter_whole (string s) p h = absurd h
filter_whole (array ds) p h = absurd h

made_whole : (p : Option FilterPartsValue) (filter : Option FilterValue) → MakesWhole p → Makes p filter → IsNoneOrWhole filter
made_whole None filter whole h = subst IsNoneOrWhole (sym h) tt
made_whole (Some p) filter whole h = subst IsNoneOrWhole (sym h.1) (whole h.0)

pub stands_for_whole : (found : Option Data) (filter : Option FilterValue) → StandsForFilter found filter → IsNoneOrWhole filter
stands_for_whole found filter h =
    made_whole h.0 filter (optional_holds IsSeccomp MakesWhole None tt (null_holds IsFilter MakesWhole None tt filter_whole) found h.0 h.1) h.2
