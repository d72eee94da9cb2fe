-- Where nothing is found, nothing is permitted more.
use Rattle.std.proofs.Common.{◌≡◌, ◌∙◌, ap, refl, sym, ℕ, ◌≤◌, List, [], ◌∷◌, ◌++◌, false, not, cond, ◌&&◌, Option, Some, None, nat_lt, inl, inr, ltb-false, bytes_eq}
use Rattle.std.specs.Prelude.{find}
use Rattle.std.specs.List.{list_any}
use Rattle.std.specs.Option.{option_map_or}
use Rattle.std.proofs.lemmas.Bool.{cases_Bool, cond-true, or_parts, both_ways}
use Rattle.std.proofs.lemmas.List.Folds.{list_any-append}
use Rattle.cap_sets.specs.declared.state.CapState.{CapState}
use Rattle.seccomp_doc.specs.Action.{rank_of}
use Rattle.seccomp_doc.specs.Filter.{EntryValue, FilterValue}
use Rattle.seccomp_doc.specs.Meaning.{admits_words, has_name, is_match, meaning}
use Rattle.profile_text.specs.declared.profile.Profile.{Profile}
use Rattle.profile_text.specs.declared.sets.CapSet.TheVariants.{Effective, Permitted, Inheritable, Bounding, Ambient}
use Rattle.profile_text.specs.Reads.{HasKnownCaps}
use Rattle.widening.specs.declared.finding.Finding.{Finding}
use Rattle.widening.specs.declared.finding.Finding.TheVariants.{Call, Default}
use Rattle.widening.specs.Calls.{entry_names, is_permitted_more, keeps_to, rules_of}
use Rattle.widening.specs.Findings.{arch_findings, call_findings, call_names, cap_findings, default_findings, filter_findings, findings_of, flag_findings, is_found, is_wider, set_findings}
use Rattle.widening.specs.Permits.{AllowsNoMore, HoldsNoMore, IsNoWider, action_under}
use Rattle.widening.specs.Texts.{lists}
use Rattle.widening.proofs.CapFacts.{within_from_nothing}
use Rattle.widening.proofs.RankFacts.{rank-most}
use Rattle.widening.proofs.Searches.{is_empty_map}
use Rattle.widening.proofs.RulesFacts.{meaning-rules, rules_at_most}
use Rattle.widening.proofs.WiderFacts.{lists-names}
use Rattle.widening.proofs.TextFacts.{list_any-in_byte_order, passes_where_listed}

append_empty : {X : Type 0} (xs ys : List X) → xs ++ ys ≡ [] → (xs ≡ []) × (ys ≡ [])
append_empty [] ys e = (refl, e)
append_empty (x ∷ xs) ys e = cc

-- a filter without an entry of the name gives its default
named-none : (name words : List ℕ) (es : List EntryValue) → list_any (has_name name) es ≡ false → find (is_match name words) es ≡ None
named-none name words [] none = refl
named-none name words (e ∷ es) none =
    let parts = or_parts (has_name name e) (list_any (has_name name) es) none in
    ap (λ b. cond (b && admits_words e.args words) (Some e) (find (is_match name words) es)) parts.0 ∙ named-none name words es parts.1

unnamed-default : (f : FilterValue) (name words : List ℕ) → list_any (has_name name) f.entries ≡ false → meaning f name words ≡ f.default
unnamed-default f name words none = ap (λ o. option_map_or (λ e. e.action) o f.default) (named-none name words f.entries none)

module _ (base new : FilterValue) where
  abbrev all_names : List (List ℕ)
  all_names = entry_names base.entries ++ entry_names new.entries

  -- a name that one of the filters has passes the test
  named_keeps : (name : List ℕ) → call_findings base new ≡ [] → keeps_to base new name ≡ false → lists all_names name ≡ false
  named_keeps name none fails =
      let all_pass : list_any (is_permitted_more base new) all_names ≡ false =
      sym (list_any-in_byte_order (is_permitted_more base new) all_names) ∙ is_empty_map Call (is_permitted_more base new) (call_names base new) none in
      elim (cases_Bool (lists all_names name)) as (λ _. lists all_names name ≡ false) [
        | inl listed ↦ absurd (both_ways _ all_pass (passes_where_listed (is_permitted_more base new) all_names name (ap not fails) listed))
        | inr gone ↦ gone
      ]

  default_below : default_findings base new ≡ [] → rank_of new.default ≤ rank_of base.default
  default_below none = elim (cases_Bool (nat_lt (rank_of base.default) (rank_of new.default))) as (λ _. rank_of new.default ≤ rank_of base.default) [
    | inl above ↦ let clash : Default ∷ [] ≡ [] = sym (cond-true _ (Default ∷ []) [] above) ∙ none in cc
    | inr below ↦ ltb-false (rank_of base.default) (rank_of new.default) below
  ]

  -- no call is permitted more
  pub filters_at_most : call_findings base new ≡ [] → default_findings base new ≡ [] → AllowsNoMore (Some base) (Some new)
  filters_at_most calls default name words small =
      elim (cases_Bool (keeps_to base new name)) as (λ _. rank_of (meaning new name words) ≤ rank_of (meaning base name words)) [
        | inl kept ↦
            rw (meaning-rules new name words, meaning-rules base name words) (rules_at_most (rules_of name base) words small (rules_of name new) kept)
        | inr fails ↦
            let gone = or_parts (lists (entry_names base.entries) name) (lists (entry_names new.entries) name)
            (sym (list_any-append (bytes_eq name) (entry_names base.entries) (entry_names new.entries)) ∙ named_keeps name calls fails) in
            rw (
              unnamed-default new name words (sym (lists-names name new.entries) ∙ gone.1),
              unnamed-default base name words (sym (lists-names name base.entries) ∙ gone.0),
            ) (default_below default)
      ]

-- the same where a profile may have no filter
pub allows_no_more : (base new : Option FilterValue) → filter_findings base new ≡ [] → AllowsNoMore base new
allows_no_more None new none name words small = rank-most (action_under new name words)
allows_no_more (Some base) None none name words small = cc
allows_no_more (Some base) (Some new) none name words small =
    let first = append_empty (arch_findings base.architectures new.architectures ++ flag_findings base.flags new.flags ++ call_findings base new) (default_findings base new) none in
    let second = append_empty (arch_findings base.architectures new.architectures ++ flag_findings base.flags new.flags) (call_findings base new) first.0 in
    filters_at_most base new second.1 first.1 name words small

-- ---- capabilities

pub holds_no_more : (base new : CapState) → HasKnownCaps new → cap_findings base new ≡ [] → HoldsNoMore base new
holds_no_more base new known none =
    let one = append_empty (set_findings base new Effective) _ none in
    let two = append_empty (set_findings base new Permitted) _ one.1 in
    let three = append_empty (set_findings base new Inheritable) _ two.1 in
    let four = append_empty (set_findings base new Bounding) _ three.1 in
    let five = append_empty (set_findings base new Ambient) _ four.1 in
    record {
      effective = within_from_nothing Effective base.effective new.effective known.effective one.0;
      permitted = within_from_nothing Permitted base.permitted new.permitted known.permitted two.0;
      inheritable = within_from_nothing Inheritable base.inheritable new.inheritable known.inheritable three.0;
      bounding = within_from_nothing Bounding base.bounding new.bounding known.bounding four.0;
      ambient = within_from_nothing Ambient base.ambient new.ambient known.ambient five.0;
    }

-- the whole
pub no_wider : (base new : Profile) → HasKnownCaps new.caps → findings_of base new ≡ [] → IsNoWider base new
unfolding findings_of
no_wider base new known none =
    let parts = append_empty (cap_findings base.caps new.caps) (filter_findings base.filter new.filter) none in
    record { caps = holds_no_more base.caps new.caps known parts.0; calls = allows_no_more base.filter new.filter parts.1 }

empty_from_test : (found : List Finding) → is_found found ≡ false → found ≡ []
empty_from_test [] none = refl
empty_from_test (f ∷ found) none = cc

pub no_wider_by_test : (base new : Profile) → HasKnownCaps new.caps → is_wider base new ≡ false → IsNoWider base new
no_wider_by_test base new known none = no_wider base new known (empty_from_test (findings_of base new) none)

-- the same by the parts of the test
pub no_wider_by_parts : (base new : Profile) → HoldsNoMore base.caps new.caps → is_found (filter_findings base.filter new.filter) ≡ false → IsNoWider base new
no_wider_by_parts base new caps none = record { caps = caps; calls = allows_no_more base.filter new.filter (empty_from_test (filter_findings base.filter new.filter) none) }
