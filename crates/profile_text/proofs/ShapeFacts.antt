-- Where there is no fault, the values are of their shapes.
use Rattle.std.proofs.Common.{◌≡◌, ◌∙◌, ℕ, ◌+◌, inl, inr, List, [], Bool, true, false, Option, Some, None, bytes_eq, refl, sym, subst}
use Rattle.std.specs.Option.{option_map_or}
use Rattle.std.specs.Prelude.{decimal, codes}
use Rattle.serde_json.specs.Data.{Data, null, boolean, number, string, array, object, Items, no_items, item, Members, no_members, member}
use Rattle.cap_sets.specs.Capability.{number_named}
use Rattle.profile_text.specs.declared.sets.CapSet.{CapSet}
use Rattle.profile_text.specs.declared.sets.CapSet.TheVariants.{Ambient, Bounding, Effective, Inheritable, Permitted}
use Rattle.profile_text.specs.Document.{is_cap_name, set_faults, caps_row, caps_rows, caps_faults, document_rows}
use Rattle.profile_text.specs.FilterParts.{seccomp_in}
use Rattle.profile_text.specs.FilterReads.{AllMembers}
use Rattle.profile_text.specs.Reads.{Names, AllName, IsSetValue, StandsForSet, IsSetMember, IsCapsValue, IsDocumentMember}
use Rattle.profile_text.specs.Sets.{set_name, set_of}
use Rattle.profile_text.specs.Shape.{below, word_faults, items_faults, list_faults, optional_faults, row_faults, row_named, members_faults}
use Rattle.profile_text.proofs.Agreeing.{both_empty, empty_both}
use Rattle.profile_text.proofs.FilterAgrees.{seccomp_agrees}
use Rattle.profile_text.proofs.NameFacts.{lists_own_set, listed_set}
use Rattle.profile_text.proofs.Picks.{name_cases, same_name, IsNoSet}
use Rattle.profile_text.proofs.WalkFacts.{caps_object}

-- ---- lists of names

name_by : (path s : List ℕ) (o : Option ℕ) → number_named s ≡ o → word_faults is_cap_name path (string s) ≡ [] → (n : ℕ) × Names (string s) n
unfolding word_faults
name_by path s None is e = let bad = rw is at e in absurd (cc)
name_by path s (Some n) is e = (n, is)

name_from : (path : List ℕ) (d : Data) → word_faults is_cap_name path d ≡ [] → (n : ℕ) × Names d n
unfolding word_faults
name_from path (string s) e = name_by path s (number_named s) refl e
name_from path null e = absurd (cc)
name_from path (boolean b) e = absurd (cc)
name_from path (number n) e = absurd (cc)
name_from path (array ds) e = absurd (cc)
name_from path (object ms) e = absurd (cc)

no_name_fault : (path : List ℕ) (d : Data) (n : ℕ) → Names d n → word_faults is_cap_name path d ≡ []
unfolding word_faults
no_name_fault path (string s) n h = rw h refl
no_name_fault path null n h = absurd h
no_name_fault path (boolean b) n h = absurd h
no_name_fault path (number x) n h = absurd h
no_name_fault path (array ds) n h = absurd h
no_name_fault path (object ms) n h = absurd h

names_from_none : (path : List ℕ) (i : ℕ) (ds : Items) → items_faults (word_faults is_cap_name) path i ds ≡ [] → AllName ds
unfolding items_faults
names_from_none path i no_items e = tt
names_from_none path i (item d ds) e =
    let parts = both_empty (word_faults is_cap_name (below path (decimal i)) d) (items_faults (word_faults is_cap_name) path (i + 1) ds) e in
    (name_from (below path (decimal i)) d parts.0, names_from_none path (i + 1) ds parts.1)

no_items_fault : (path : List ℕ) (i : ℕ) (ds : Items) → AllName ds → items_faults (word_faults is_cap_name) path i ds ≡ []
unfolding items_faults
no_items_fault path i no_items all = refl
no_items_fault path i (item d ds) all =
    empty_both (word_faults is_cap_name (below path (decimal i)) d) (items_faults (word_faults is_cap_name) path (i + 1) ds)
    (no_name_fault (below path (decimal i)) d all.0.0 all.0.1) (no_items_fault path (i + 1) ds all.1)

-- ---- a set

set_from_none : (path : List ℕ) (d : Data) → set_faults path d ≡ [] → IsSetValue d
unfolding optional_faults list_faults
set_from_none path null e = tt
set_from_none path (array ds) e = names_from_none path 0 ds e
set_from_none path (boolean b) e = absurd (cc)
set_from_none path (number n) e = absurd (cc)
set_from_none path (string s) e = absurd (cc)
set_from_none path (object ms) e = absurd (cc)

no_set_fault : (path : List ℕ) (d : Data) → IsSetValue d → set_faults path d ≡ []
unfolding optional_faults list_faults
no_set_fault path null h = refl
no_set_fault path (array ds) h = no_items_fault path 0 ds h
no_set_fault path (boolean b) h = absurd h
no_set_fault path (number n) h = absurd h
no_set_fault path (string s) h = absurd h
no_set_fault path (object ms) h = absurd h

pub stands_for_own : (o : Option Data) → ((d : Data) → o ≡ Some d → IsSetValue d) → StandsForSet o (option_map_or set_of o 0)
unfolding set_of
stands_for_own None h = refl
stands_for_own (Some null) h = refl
stands_for_own (Some (array ds)) h = lists_own_set ds (h (array ds) refl)
stands_for_own (Some (boolean b)) h = h (boolean b) refl
stands_for_own (Some (number n)) h = h (number n) refl
stands_for_own (Some (string s)) h = h (string s) refl
stands_for_own (Some (object ms)) h = h (object ms) refl

pub stood_for : (o : Option Data) (caps : ℕ) → StandsForSet o caps → option_map_or set_of o 0 ≡ caps
unfolding set_of
stood_for None caps h = sym h
stood_for (Some null) caps h = sym h
stood_for (Some (array ds)) caps h = listed_set ds caps h
stood_for (Some (boolean b)) caps h = absurd h
stood_for (Some (number n)) caps h = absurd h
stood_for (Some (string s)) caps h = absurd h
stood_for (Some (object ms)) caps h = absurd h

-- ---- `capabilities`

set_row : (set : CapSet) → row_named caps_rows (set_name set) ≡ Some (caps_row set)
set_row Ambient = refl
set_row Bounding = refl
set_row Effective = refl
set_row Inheritable = refl
set_row Permitted = refl

set_member_from : (path name : List ℕ) (d : Data) → row_faults (row_named caps_rows name) path d ≡ [] → IsSetMember name d
set_member_from path name d e =
    elim (name_cases name) as (λ _. IsSetMember name d) [
      | inl named ↦ (named, set_from_none path d (let at_name = subst (λ n. row_faults (row_named caps_rows n) path d ≡ []) named.1 e in rw (set_row named.0) at at_name))
      | inr none ↦ let bad = no_row path name d none e in absurd bad
    ]
  where
    no_row : (path name : List ℕ) (d : Data) → IsNoSet name → row_faults (row_named caps_rows name) path d ≡ [] → ⊥
    no_row path name d h e = let bad = rw (h.ambient, h.bounding, h.effective, h.inheritable, h.permitted) at e in absurd (cc)

no_set_member_fault : (path name : List ℕ) (d : Data) → IsSetMember name d → row_faults (row_named caps_rows name) path d ≡ []
no_set_member_fault path name d h = rw (h.0.1, set_row h.0.0) (no_set_fault path d h.1)

set_members_from : (path : List ℕ) (ms : Members) → members_faults caps_rows path ms ≡ [] → AllMembers IsSetMember ms
unfolding members_faults
set_members_from path no_members e = tt
set_members_from path (member n d ms) e =
    let parts = both_empty (row_faults (row_named caps_rows n) (below path n) d) (members_faults caps_rows path ms) e in
    (set_member_from (below path n) n d parts.0, set_members_from path ms parts.1)

no_set_members_fault : (path : List ℕ) (ms : Members) → AllMembers IsSetMember ms → members_faults caps_rows path ms ≡ []
unfolding members_faults
no_set_members_fault path no_members all = refl
no_set_members_fault path (member n d ms) all =
    empty_both (row_faults (row_named caps_rows n) (below path n) d) (members_faults caps_rows path ms)
    (no_set_member_fault (below path n) n d all.0) (no_set_members_fault path ms all.1)

caps_from_none : (path : List ℕ) (d : Data) → caps_faults path d ≡ [] → IsCapsValue d
unfolding caps_faults
caps_from_none path (object ms) e = set_members_from path ms (sym (caps_object path ms) ∙ e)
caps_from_none path null e = absurd (cc)
caps_from_none path (boolean b) e = absurd (cc)
caps_from_none path (number n) e = absurd (cc)
caps_from_none path (string s) e = absurd (cc)
caps_from_none path (array ds) e = absurd (cc)

no_caps_fault : (path : List ℕ) (d : Data) → IsCapsValue d → caps_faults path d ≡ []
unfolding caps_faults
no_caps_fault path (object ms) h = caps_object path ms ∙ no_set_members_fault path ms h
no_caps_fault path null h = absurd h
no_caps_fault path (boolean b) h = absurd h
no_caps_fault path (number n) h = absurd h
no_caps_fault path (string s) h = absurd h
no_caps_fault path (array ds) h = absurd h

-- ---- the document

document_member_by : (path name : List ℕ) (d : Data) (a b : Bool) → bytes_eq name (codes "capabilities") ≡ a → bytes_eq name (codes "seccomp") ≡ b → row_faults (row_named document_rows name) path d ≡ [] → IsDocumentMember name d
document_member_by path name d true b is other e = inl (same_name name _ is, caps_from_none path d (rw is at e))
document_member_by path name d false true is other e = inr (same_name name _ other, (seccomp_in d, seccomp_agrees.stands path d (rw (is, other) at e)))
document_member_by path name d false false is other e = let bad = rw (is, other) at e in absurd (cc)

document_member_from : (path name : List ℕ) (d : Data) → row_faults (row_named document_rows name) path d ≡ [] → IsDocumentMember name d
document_member_from path name d e = document_member_by path name d _ _ refl refl e

no_document_member_fault : (path name : List ℕ) (d : Data) → IsDocumentMember name d → row_faults (row_named document_rows name) path d ≡ []
no_document_member_fault path name d (inl h) = rw h.0 (no_caps_fault path d h.1)
no_document_member_fault path name d (inr h) = rw h.0 (seccomp_agrees.faultless path d h.1.0 h.1.1)

pub document_members_from : (path : List ℕ) (ms : Members) → members_faults document_rows path ms ≡ [] → AllMembers IsDocumentMember ms
unfolding members_faults
document_members_from path no_members e = tt
document_members_from path (member n d ms) e =
    let parts = both_empty (row_faults (row_named document_rows n) (below path n) d) (members_faults document_rows path ms) e in
    (document_member_from (below path n) n d parts.0, document_members_from path ms parts.1)

pub no_document_members_fault : (path : List ℕ) (ms : Members) → AllMembers IsDocumentMember ms → members_faults document_rows path ms ≡ []
unfolding members_faults
no_document_members_fault path no_members all = refl
no_document_members_fault path (member n d ms) all =
    empty_both (row_faults (row_named document_rows n) (below path n) d) (members_faults document_rows path ms)
    (no_document_member_fault (below path n) n d all.0) (no_document_members_fault path ms all.1)
