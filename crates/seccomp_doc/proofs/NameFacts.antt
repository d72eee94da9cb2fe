-- One name more, in a map that knows the actions of some entries.
use Rattle.std.proofs.Common.{◌≡◌, ◌∙◌, ap, refl, sym, subst, inl, inr, ℕ, suc, ◌+◌, ◌<◌, ◌≤◌, add-one, get_or, take, drop, length, map, Contains, List, [], ◌∷◌, ◌++◌, Bool, true, false, not, cond, ◌||◌, ◌&&◌, Option, Some, None, bytes_eq}
use Rattle.std.specs.List.{list_any}
use Rattle.std.proofs.lemmas.Bool.{cases_Bool, false≢true}
use Rattle.std.proofs.lemmas.Bool.Decides.{same_from_decides}
use Rattle.std.proofs.Math.ListN.{drop_of_length-le}
use Rattle.std.proofs.Math.Seq.{drop-cons}
use Rattle.std.proofs.lemmas.List.{take-append-drop, take_all, take_more}
use Rattle.std.proofs.lemmas.List.Folds.{list_any-append, list_any_at}
use Rattle.std.proofs.lemmas.Slice.Eq.{bytes_eq-Decides}
use Rattle.seccomp_doc.specs.declared.action.Action.{Action}
use Rattle.seccomp_doc.specs.declared.compare.Compare.{Compare}
use Rattle.seccomp_doc.specs.declared.fault.FilterFault.{FilterFault}
use Rattle.seccomp_doc.specs.declared.fault.FilterFault.TheVariants.{TwoActions}
use Rattle.seccomp_doc.specs.Action.{same_action}
use Rattle.seccomp_doc.specs.Filter.{EntryValue}
use Rattle.seccomp_doc.specs.Meaning.{has_name}
use Rattle.seccomp_doc.specs.Checks.{all_name_checks, contradicts, first_fault, name_check, name_checks}
use Rattle.seccomp_doc.specs.Lawful.{HasOneAction}
use Rattle.seccomp_doc.specs.Names.{IsActionOf, AgreesWith, DiffersFrom}
use Rattle.seccomp_doc.proofs.EntryFacts.{both_false, not_false}
use Rattle.seccomp_doc.proofs.FaultFacts.{first_fault-after, first_fault-before, first_fault-here, first_fault-push}
use Rattle.seccomp_doc.proofs.Lists.{list_any_here, or_right}
use Rattle.seccomp_doc.proofs.SameAction.{same_action_is, same_action_itself}

-- the entry with these names
abbrev pub naming : List (List ℕ) → Action → List Compare → EntryValue
naming names action args = record { names = names; action = action; args = args }

bytes_eq-swap : (a b : List ℕ) → bytes_eq a b ≡ bytes_eq b a
bytes_eq-swap a b = let other = bytes_eq-Decides b a in same_from_decides _ _ (bytes_eq-Decides a b) ((λ e. sym (other.0 e)), (λ e. other.1 (sym e)))

or_none : (b : Bool) → (b || false) ≡ b
or_none true = refl
or_none false = refl

and_none : (b : Bool) → (b && false) ≡ false
and_none true = refl
and_none false = refl

or_left : (a b : Bool) → a ≡ true → (a || b) ≡ true
or_left a b e = ap (λ x. x || b) e

or_false : (a b : Bool) → a ≡ false → b ≡ false → (a || b) ≡ false
or_false a b e f = ap (λ x. x || b) e ∙ f

-- without an entry of the name none contradicts
no_contradiction : (name : List ℕ) (action : Action) (es : List EntryValue) → list_any (has_name name) es ≡ false → list_any (contradicts name action) es ≡ false
no_contradiction name action [] e = refl
no_contradiction name action (x ∷ es) e =
    let parts = both_false (has_name name x) _ e in
    or_false _ _ (ap (λ b. b && not (same_action x.action action)) parts.0) (no_contradiction name action es parts.1)

-- an entry of the name has the known action, which is another one
contradiction : (name : List ℕ) (known action : Action) (es : List EntryValue) → same_action known action ≡ false →
    list_any (has_name name) es ≡ true → list_any (contradicts name known) es ≡ false → list_any (contradicts name action) es ≡ true
contradiction name known action [] differs has none = cc
contradiction name known action (x ∷ es) differs has none =
    let parts = both_false (contradicts name known x) _ none in
    elim (cases_Bool (has_name name x)) as (λ _. list_any (contradicts name action) (x ∷ es) ≡ true) [
      | inl here ↦
          let same : x.action ≡ known = same_action_is x.action known (not_false _ (sym (ap (λ b. b && not (same_action x.action known)) here) ∙ parts.0)) in
          or_left _ _ (ap (λ b. b && not (same_action x.action action)) here ∙ ap (λ a. not (same_action a action)) same ∙ ap not differs)
      | inr gone ↦ or_right (contradicts name action x) _ (contradiction name known action es differs (sym (ap (λ b. b || list_any (has_name name) es) gone) ∙ has) parts.1)
    ]

-- what is known of a name: of some entries, and of one more
abbrev IsSplit : Bool → Bool → (Action → Bool) → Action → Option Action → Type 0
IsSplit has own other action None = (has ≡ false) × (own ≡ false)
IsSplit has own other action (Some known) = ((has || own) ≡ true) × (other known ≡ false) × ((own && not (same_action action known)) ≡ false)

module _ (earlier : List EntryValue) (action : Action) (args : List Compare) where
  split : (names : List (List ℕ)) (name : List ℕ) (o : Option Action) → IsActionOf (earlier ++ naming names action args ∷ []) name o →
      IsSplit (list_any (has_name name) earlier) (list_any (bytes_eq name) names) (λ a. list_any (contradicts name a) earlier) action o
  split names name None e =
      let parts = both_false (list_any (has_name name) earlier) _ (sym (list_any-append (has_name name) earlier (naming names action args ∷ [])) ∙ e) in
      (parts.0, sym (or_none _) ∙ parts.1)
  split names name (Some known) e =
      let parts = both_false (list_any (contradicts name known) earlier) _ (sym (list_any-append (contradicts name known) earlier (naming names action args ∷ [])) ∙ e.1) in
      (ap (λ b. list_any (has_name name) earlier || b) (sym (or_none _)) ∙ sym (list_any-append (has_name name) earlier (naming names action args ∷ [])) ∙ e.0, parts.0, sym (or_none _) ∙ parts.1)

  joined : (names : List (List ℕ)) (name : List ℕ) (o : Option Action) →
      IsSplit (list_any (has_name name) earlier) (list_any (bytes_eq name) names) (λ a. list_any (contradicts name a) earlier) action o →
      IsActionOf (earlier ++ naming names action args ∷ []) name o
  joined names name None e = list_any-append (has_name name) earlier (naming names action args ∷ []) ∙ or_false _ _ e.0 (or_none _ ∙ e.1)
  joined names name (Some known) e = (
    list_any-append (has_name name) earlier (naming names action args ∷ []) ∙ ap (λ b. list_any (has_name name) earlier || b) (or_none _) ∙ e.0,
    list_any-append (contradicts name known) earlier (naming names action args ∷ []) ∙ or_false _ _ e.1 (or_none _ ∙ e.2),
  )

  -- a name without another action contradicts no earlier entry
  pub agrees : (names : List (List ℕ)) (name : List ℕ) (o : Option Action) → IsActionOf (earlier ++ naming names action args ∷ []) name o → AgreesWith o action →
      list_any (contradicts name action) earlier ≡ false
  agrees names name None e same = no_contradiction name action earlier (split names name None e).0
  agrees names name (Some known) e same = subst (λ a. list_any (contradicts name a) earlier ≡ false) (same_action_is known action same) (split names name (Some known) e).1

  -- a name with another action contradicts one
  pub differs : (names : List (List ℕ)) (name : List ℕ) (o : Option Action) → IsActionOf (earlier ++ naming names action args ∷ []) name o → DiffersFrom o action →
      list_any (contradicts name action) earlier ≡ true
  differs names name None e other = absurd other
  differs names name (Some known) e other =
      let parts = split names name (Some known) e in
      elim (cases_Bool (list_any (bytes_eq name) names)) as (λ _. list_any (contradicts name action) earlier ≡ true) [
        | inl own ↦
            let same : action ≡ known = same_action_is action known (not_false _ (sym (ap (λ b. b && not (same_action action known)) own) ∙ parts.2)) in
            let itself : same_action known action ≡ true = subst (λ a. same_action known a ≡ true) (sym same) (same_action_itself known) in
            absurd (false≢true (sym other ∙ itself))
        | inr gone ↦ contradiction name known action earlier other (sym (or_none _) ∙ ap (λ b. list_any (has_name name) earlier || b) (sym gone) ∙ parts.0) parts.1
      ]

  -- the name is learned
  pub learned : (names : List (List ℕ)) (name : List ℕ) (old new : List ℕ → Option Action) →
      ((q : List ℕ) → IsActionOf (earlier ++ naming names action args ∷ []) q (old q)) → AgreesWith (old name) action →
      ((q : List ℕ) → new q ≡ cond (bytes_eq name q) (Some action) (old q)) →
      (q : List ℕ) → IsActionOf (earlier ++ naming (names ++ name ∷ []) action args ∷ []) q (new q)
  learned names name old new knows same updates q =
      elim (cases_Bool (bytes_eq name q)) as (λ _. IsActionOf (earlier ++ naming (names ++ name ∷ []) action args ∷ []) q (new q)) [
        | inl here ↦
            let is : name ≡ q = (bytes_eq-Decides name q).0 here in
            let none : list_any (contradicts q action) earlier ≡ false = subst (λ n. list_any (contradicts n action) earlier ≡ false) is (agrees names name (old name) (knows name) same) in
            let has : list_any (bytes_eq q) (names ++ name ∷ []) ≡ true = list_any_here (bytes_eq q) names name [] (bytes_eq-swap q name ∙ here) in
            subst (λ o. IsActionOf (earlier ++ naming (names ++ name ∷ []) action args ∷ []) q o)
            (sym (updates q ∙ ap (λ b. cond b (Some action) (old q)) here))
            (joined (names ++ name ∷ []) q (Some action)
            (or_right (list_any (has_name q) earlier) _ has, none, ap (λ b. list_any (bytes_eq q) (names ++ name ∷ []) && not b) (same_action_itself action) ∙ and_none _))
        | inr gone ↦
            let own : list_any (bytes_eq q) names ≡ list_any (bytes_eq q) (names ++ name ∷ []) =
            sym (list_any-append (bytes_eq q) names (name ∷ []) ∙ ap (λ b. list_any (bytes_eq q) names || (b || false)) (bytes_eq-swap q name ∙ gone) ∙ or_none _) in
            subst (λ o. IsActionOf (earlier ++ naming (names ++ name ∷ []) action args ∷ []) q o)
            (sym (updates q ∙ ap (λ b. cond b (Some action) (old q)) gone))
            (joined (names ++ name ∷ []) q (old q)
            (subst (λ b. IsSplit (list_any (has_name q) earlier) b (λ a. list_any (contradicts q a) earlier) action (old q)) own (split names q (old q) (knows q))))
      ]

-- ---- the names of an entry, one after another

-- a name that an earlier entry has under another action is the first that fails
pub names_told : (earlier : List EntryValue) (e : EntryValue) (items : List (List ℕ)) (action : Action) (i : ℕ) (name : List ℕ) (known : Option Action) →
    items ≡ e.names → action ≡ e.action → i < length items → name ≡ get_or items i name →
    IsActionOf (earlier ++ naming (take i items) action e.args ∷ []) name known →
    first_fault (map (name_check earlier action) (take i items)) ≡ None → DiffersFrom known action →
    first_fault (name_checks earlier e) ≡ Some (TwoActions name)
names_told earlier e items action i name known same_names same_action_of lt is knows none other =
    let parts : items ≡ take i items ++ name ∷ drop (suc i) items =
    sym (take-append-drop i items) ∙ ap (λ xs. take i items ++ xs) (drop-cons items i name lt ∙ ap (λ n. n ∷ drop (suc i) items) (sym is)) in
    let here : first_fault (map (name_check earlier action) (take i items ++ name ∷ drop (suc i) items)) ≡ Some (TwoActions name) =
    first_fault-here (name_check earlier action) (take i items) name (drop (suc i) items) none (differs earlier action e.args (take i items) name known knows other) in
    subst (λ ns. first_fault (map (name_check earlier e.action) ns) ≡ Some (TwoActions name)) (sym parts ∙ same_names)
    (subst (λ a. first_fault (map (name_check earlier a) (take i items ++ name ∷ drop (suc i) items)) ≡ Some (TwoActions name)) same_action_of here)

-- a name that agrees is learned
pub names_more : (earlier : List EntryValue) (args : List Compare) (items : List (List ℕ)) (action : Action) (i : ℕ) (name : List ℕ) (old new : List ℕ → Option Action) →
    i < length items → name ≡ get_or items i name →
    ((q : List ℕ) → IsActionOf (earlier ++ naming (take i items) action args ∷ []) q (old q)) →
    first_fault (map (name_check earlier action) (take i items)) ≡ None → AgreesWith (old name) action →
    ((q : List ℕ) → new q ≡ cond (bytes_eq name q) (Some action) (old q)) →
    ((q : List ℕ) → IsActionOf (earlier ++ naming (take (i + 1) items) action args ∷ []) q (new q)) × (first_fault (map (name_check earlier action) (take (i + 1) items)) ≡ None)
names_more earlier args items action i name old new lt is knows none same updates =
    let seen : take (i + 1) items ≡ take i items ++ name ∷ [] = take_more items i name lt ∙ ap (λ n. take i items ++ n ∷ []) (sym is) in
    subst (λ ns. ((q : List ℕ) → IsActionOf (earlier ++ naming ns action args ∷ []) q (new q)) × (first_fault (map (name_check earlier action) ns) ≡ None)) (sym seen) (
      learned earlier action args (take i items) name old new knows same updates,
      first_fault-push (name_check earlier action) (take i items) name none (agrees earlier action args (take i items) name (old name) (knows name) same),
    )

-- all names are learned
pub names_all : (earlier : List EntryValue) (e : EntryValue) (items : List (List ℕ)) (action : Action) (i : ℕ) (found : List ℕ → Option Action) →
    items ≡ e.names → action ≡ e.action → length items ≤ i →
    ((q : List ℕ) → IsActionOf (earlier ++ naming (take i items) action e.args ∷ []) q (found q)) →
    (q : List ℕ) → IsActionOf (earlier ++ e ∷ []) q (found q)
names_all earlier e items action i found same_names same_action_of all knows =
    subst (λ a. (q : List ℕ) → IsActionOf (earlier ++ naming e.names a e.args ∷ []) q (found q)) same_action_of
    (subst (λ ns. (q : List ℕ) → IsActionOf (earlier ++ naming ns action e.args ∷ []) q (found q)) (take_all i items all ∙ same_names) knows)

-- ---- the entries, one after another

next_is : (es : List EntryValue) (i : ℕ) (e : EntryValue) → i < length es → e ≡ get_or es i e → drop i es ≡ e ∷ drop (suc i) es
next_is es i e lt is = drop-cons es i e lt ∙ ap (λ x. x ∷ drop (suc i) es) (sym is)

pub entries_told : (es : List EntryValue) (i : ℕ) (e : EntryValue) (fault : FilterFault) → i < length es → e ≡ get_or es i e →
    first_fault (name_checks (take i es) e) ≡ Some fault → first_fault (all_name_checks (take i es) (drop i es)) ≡ Some fault
unfolding all_name_checks
entries_told es i e fault lt is told =
    subst (λ rest. first_fault (all_name_checks (take i es) rest) ≡ Some fault) (sym (next_is es i e lt is))
    (first_fault-before (name_checks (take i es) e) (all_name_checks (take i es ++ e ∷ []) (drop (suc i) es)) fault told)

pub entries_more : (es : List EntryValue) (i : ℕ) (e : EntryValue) → i < length es → e ≡ get_or es i e →
    first_fault (name_checks (take i es) e) ≡ None →
    first_fault (all_name_checks (take i es) (drop i es)) ≡ first_fault (all_name_checks (take (i + 1) es) (drop (i + 1) es))
unfolding all_name_checks
entries_more es i e lt is none =
    let seen : take i es ++ e ∷ [] ≡ take (i + 1) es = sym (take_more es i e lt ∙ ap (λ x. take i es ++ x ∷ []) (sym is)) in
    ap (λ rest. first_fault (all_name_checks (take i es) rest)) (next_is es i e lt is)
    ∙ first_fault-after (name_checks (take i es) e) (all_name_checks (take i es ++ e ∷ []) (drop (suc i) es)) none
    ∙ ap (λ front. first_fault (all_name_checks front (drop (suc i) es))) seen
    ∙ ap (λ n. first_fault (all_name_checks (take (i + 1) es) (drop n es))) (sym (add-one i))

pub entries_all : (es : List EntryValue) (i : ℕ) → length es ≤ i → first_fault (all_name_checks (take i es) (drop i es)) ≡ None
unfolding all_name_checks
entries_all es i all = ap (λ rest. first_fault (all_name_checks (take i es) rest)) (drop_of_length-le es all)

pub none_of : {X : Type 0} (p : X → Bool) (xs : List X) (x : X) → list_any p xs ≡ false → Contains xs x → p x ≡ false
none_of p xs x none at = elim (cases_Bool (p x)) as (λ _. p x ≡ false) [
  | inl yes_here ↦ absurd (false≢true (sym none ∙ list_any_at p xs at.0 x at.1 (ap p at.2 ∙ yes_here)))
  | inr no_here ↦ no_here
]

has_known : (es : List EntryValue) (name : List ℕ) (a : Action) → list_any (contradicts name a) es ≡ false →
    (x : EntryValue) → Contains es x → has_name name x ≡ true → x.action ≡ a
has_known es name a none x in_x has_x =
    same_action_is x.action a (not_false _ (sym (ap (λ b. b && not (same_action x.action a)) has_x) ∙ none_of (contradicts name a) es x none in_x))

known_action : (es : List EntryValue) (name : List ℕ) (o : Option Action) → IsActionOf es name o →
    (d e : EntryValue) → Contains es d → Contains es e → has_name name d ≡ true → has_name name e ≡ true → d.action ≡ e.action
known_action es name None none d e in_d in_e has_d has_e = absurd (false≢true (sym (none_of (has_name name) es d none in_d) ∙ has_d))
known_action es name (Some a) knows d e in_d in_e has_d has_e =
    has_known es name a knows.1 d in_d has_d ∙ sym (has_known es name a knows.1 e in_e has_e)

-- a map that knows the action of each name knows one
pub one_action : (es : List EntryValue) (i : ℕ) (found : List ℕ → Option Action) → length es ≤ i → ((q : List ℕ) → IsActionOf (take i es) q (found q)) → HasOneAction es
one_action es i found all knows d e in_d in_e name has_d has_e =
    known_action es name (found name) (subst (λ xs. IsActionOf xs name (found name)) (take_all i es all) (knows name)) d e in_d in_e has_d has_e
