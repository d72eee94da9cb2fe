-- Rules that permit no more than others: whatever the arguments of a call are, the rank of its action is no higher.
use Rattle.std.proofs.Common.{◌≡◌, ap, refl, ℕ, ◌<◌, ◌≤◌, ◌^◌, List, [], ◌∷◌, Bool, true, false, cond, ◌||◌, ◌&&◌, ◌==◌, Option, Some, None, All, length, nat_le, inl, inr, leb-true, eqb-true, arith}
use Rattle.std.specs.Prelude.{find, filter}
use Rattle.std.specs.List.{list_all, list_any}
use Rattle.std.specs.Option.{option_map_or}
use Rattle.std.proofs.lemmas.Bool.{and_parts, or_cases, both_ways}
use Rattle.seccomp_doc.specs.declared.action.Action.{Action}
use Rattle.seccomp_doc.specs.declared.compare.Compare.{Compare}
use Rattle.seccomp_doc.specs.Action.{rank_of}
use Rattle.seccomp_doc.specs.Filter.{EntryValue, FilterValue}
use Rattle.seccomp_doc.specs.Meaning.{admits_words, has_name, is_match, meaning}
use Rattle.implication.specs.Implication.{entry_implies}
use Rattle.implication.proofs.Implied.{entry_implies-admits}
use Rattle.widening.specs.Calls.{Rules, entry_rank, is_at_most_entries, is_at_most_possible, is_covered, is_default_covered, is_kept, is_plain, permits_no_more, rules_of}
use Rattle.widening.proofs.Searches.{found_itself, found_passes, none_passes, list_any-weaker}

-- the entry admits the words
abbrev pub takes : List ℕ → EntryValue → Bool
takes words e = admits_words e.args words

abbrev pub action_or : Action → Option EntryValue → Action
action_or default found = option_map_or (λ e. e.action) found default

-- what becomes of a call of the name
abbrev pub rules_action : Rules → List ℕ → Action
rules_action rules words = action_or rules.default (find (takes words) rules.entries)

find-named : (name words : List ℕ) (es : List EntryValue) → find (is_match name words) es ≡ find (takes words) (filter (has_name name) es)
find-named name words [] = refl
find-named name words (e ∷ es) =
    elim (has_name name e) as (λ b. cond (b && takes words e) (Some e) (find (is_match name words) es) ≡ find (takes words) (cond b (e ∷ filter (has_name name) es) (filter (has_name name) es))) [
      | true ↦ ap (λ o. cond (takes words e) (Some e) o) (find-named name words es)
      | false ↦ find-named name words es
    ]

-- the meaning of a filter is that of its rules of the name
pub meaning-rules : (f : FilterValue) (name words : List ℕ) → meaning f name words ≡ rules_action (rules_of name f) words
meaning-rules f name words = ap (action_or f.default) (find-named name words f.entries)

no_args_admit : (args : List Compare) (words : List ℕ) → (length args == 0) ≡ true → admits_words args words ≡ true
no_args_admit [] words none = refl
no_args_admit (a ∷ args) words none = absurd (omega (arith, eqb-true _ _ none))

plain_takes : (words : List ℕ) (e : EntryValue) → is_plain e ≡ true → takes words e ≡ true
plain_takes words e plain = no_args_admit e.args words plain

module _ (base : Rules) (words : List ℕ) where
  -- a rank that is at most all possible ones is at most that of the action
  pub possible_at_most : (rank : ℕ) → is_at_most_possible rank base ≡ true → rank ≤ rank_of (rules_action base words)
  possible_at_most rank most =
      let parts = and_parts (is_at_most_entries rank base.entries) (list_any is_plain base.entries || nat_le rank (rank_of base.default)) most in
      elim (find (takes words) base.entries) as (λ o. find (takes words) base.entries ≡ o → rank ≤ rank_of (action_or base.default o)) [
        | Some e ↦ λ found. leb-true rank (entry_rank e) (found_passes (λ b. nat_le rank (entry_rank b)) (takes words) base.entries e found parts.0)
        | None ↦ λ none.
            elim (or_cases (list_any is_plain base.entries) (nat_le rank (rank_of base.default)) parts.1) as (λ _. rank ≤ rank_of base.default) [
              | inl plain ↦ absurd (both_ways _ (none_passes (takes words) base.entries none) (list_any-weaker is_plain (takes words) (plain_takes words) base.entries plain))
              | inr low ↦ leb-true rank (rank_of base.default) low
            ]
      ] refl

  module _ (small : All (λ word. word < 2 ^ 64) words) where
    -- an entry that takes the words implies one that does
    implied_takes : (e : EntryValue) → takes words e ≡ true → (es : List EntryValue) → list_any (entry_implies e) es ≡ true → list_any (takes words) es ≡ true
    implied_takes e here es some = list_any-weaker (entry_implies e) (takes words) (λ b implied. entry_implies-admits e b implied words small here) es some

    -- a covered entry that takes the words
    pub covered_at_most : (e : EntryValue) → is_covered base e ≡ true → takes words e ≡ true → entry_rank e ≤ rank_of (rules_action base words)
    covered_at_most e covered here =
        elim (or_cases (is_at_most_possible (entry_rank e) base) _ covered) as (λ _. entry_rank e ≤ rank_of (rules_action base words)) [
          | inl possible ↦ possible_at_most (entry_rank e) possible
          | inr both ↦
              let parts = and_parts (is_at_most_entries (entry_rank e) base.entries) (list_any (entry_implies e) base.entries) both in
              elim (find (takes words) base.entries) as (λ o. find (takes words) base.entries ≡ o → entry_rank e ≤ rank_of (action_or base.default o)) [
                | Some b ↦ λ found.
                    leb-true (entry_rank e) (entry_rank b)
                    (found_passes (λ d. nat_le (entry_rank e) (entry_rank d)) (takes words) base.entries b found parts.0)
                | None ↦ λ none. absurd (both_ways _ (none_passes (takes words) base.entries none) (implied_takes e here base.entries parts.1))
              ] refl
        ]

    -- a covered default, where no new entry takes the words
    pub default_at_most : (new : Rules) → is_default_covered base new ≡ true → list_any (takes words) new.entries ≡ false → rank_of new.default ≤ rank_of (rules_action base words)
    default_at_most new covered none_new =
        let rank : ℕ = rank_of new.default in
        elim (or_cases (list_any is_plain new.entries || is_at_most_possible rank base) _ covered) as (λ _. rank_of new.default ≤ rank_of (rules_action base words)) [
          | inl first ↦
              elim (or_cases (list_any is_plain new.entries) (is_at_most_possible rank base) first) as (λ _. rank_of new.default ≤ rank_of (rules_action base words)) [
                | inl plain ↦ absurd (both_ways _ none_new (list_any-weaker is_plain (takes words) (plain_takes words) new.entries plain))
                | inr possible ↦ possible_at_most rank possible
              ]
          | inr both ↦
              let parts = and_parts (nat_le rank (rank_of base.default)) (list_all (is_kept new) base.entries) both in
              elim (find (takes words) base.entries) as (λ o. find (takes words) base.entries ≡ o → rank_of new.default ≤ rank_of (action_or base.default o)) [
                | Some b ↦ λ found.
                    elim (or_cases (nat_le rank (entry_rank b)) (list_any (entry_implies b) new.entries) (found_passes (is_kept new) (takes words) base.entries b found parts.1)) as (λ _. rank_of new.default ≤ entry_rank b) [
                      | inl low ↦ leb-true rank (entry_rank b) low
                      | inr implied ↦ absurd (both_ways _ none_new (implied_takes b (found_itself (takes words) base.entries b found) new.entries implied))
                    ]
                | None ↦ λ none. leb-true rank (rank_of base.default) parts.0
              ] refl
        ]

    -- rules that permit no more
    pub rules_at_most : (new : Rules) → permits_no_more base new ≡ true → rank_of (rules_action new words) ≤ rank_of (rules_action base words)
    rules_at_most new kept =
        let parts = and_parts (list_all (is_covered base) new.entries) (is_default_covered base new) kept in
        elim (find (takes words) new.entries) as (λ o. find (takes words) new.entries ≡ o → rank_of (action_or new.default o) ≤ rank_of (rules_action base words)) [
          | Some e ↦ λ found. covered_at_most e (found_passes (is_covered base) (takes words) new.entries e found parts.0) (found_itself (takes words) new.entries e found)
          | None ↦ λ none. default_at_most new parts.1 (none_passes (takes words) new.entries none)
        ] refl
