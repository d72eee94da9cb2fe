-- Bytes read as a profile exactly where they stand for it.
use Rattle.std.proofs.Common.{◌≡◌, ◌∙◌, ℕ, ◌≤◌, inl, inr, List, [], length, Bool, true, false, cond, Option, Some, None, option_map, Result, Ok, Err, refl, sym, ap, subst, le-ltb, ltb-false}
use Rattle.std.specs.Option.{option_map_or}
use Rattle.std.specs.Prelude.{IfOk, codes, nat_lt, unwrap_or}
use Rattle.serde_json.specs.Data.{Data, null, boolean, number, string, array, object, Members}
use Rattle.cap_sets.specs.Lawful.{IsLawfulState}
use Rattle.cap_sets.specs.declared.state.CapState.{CapState}
use Rattle.cap_sets.specs.declared.state.CapFault.{CapFault}
use Rattle.cap_sets.proofs.Faults.{no_fault_from_lawful}
use Rattle.seccomp_doc.specs.declared.fault.FilterFault.{FilterFault}
use Rattle.seccomp_doc.specs.Checks.{fault_of}
use Rattle.seccomp_doc.specs.Filter.{FilterValue}
use Rattle.seccomp_doc.specs.Parts.{FilterPartsValue, filter_of}
use Rattle.profile_text.specs.declared.document.Parts.{Parts}
use Rattle.profile_text.specs.declared.fault.DocFault.{DocFault}
use Rattle.profile_text.specs.declared.fault.DocFault.TheVariants.{TooLong, TextTooLong}
use Rattle.profile_text.specs.declared.profile.Profile.{Profile}
use Rattle.profile_text.specs.declared.sets.CapSet.{CapSet}
use Rattle.profile_text.specs.declared.sets.CapSet.TheVariants.{Ambient, Bounding, Effective, Inheritable, Permitted}
use Rattle.profile_text.specs.declared.sets.Sets.{Sets}
use Rattle.profile_text.specs.Document.{document_rows, document_faults}
use Rattle.profile_text.specs.FilterParts.{seccomp_in}
use Rattle.profile_text.specs.FilterReads.{AllMembers, IsA, IsSeccomp, Makes, StandsForFilter}
use Rattle.profile_text.specs.FilterShape.{seccomp_faults}
use Rattle.profile_text.specs.Reading.{GivesAs, ◌>>=◌, unless_faulty, unless_unlawful, filter_or_fault, caps_or_fault, if_short, profile_of, profile_of_json, json_of, reading_of, stored_reading_of, most_bytes}
use Rattle.profile_text.specs.Reads.{IsSetMember, IsCapsValue, IsDocumentMember, StandsForSet, StandsForCaps, MembersStandFor, StandsFor, Reads, state_set}
use Rattle.profile_text.specs.Parts.{found_in, document_parts, parts_of}
use Rattle.profile_text.specs.Sets.{set_name, set_in, set_of, sets_in, sets_of, no_sets}
use Rattle.profile_text.specs.Shape.{member_of, members_faults, missing_faults, object_faults}
use Rattle.profile_text.specs.State.{fault_in, state_by, state_of}
use Rattle.profile_text.specs.Text.{text_of}
use Rattle.profile_text.proofs.Agreeing.{both_empty, member_holds, optional_is, optional_same}
use Rattle.profile_text.proofs.FilterAgrees.{seccomp_agrees}
use Rattle.profile_text.proofs.GivesFacts.{ok_parts}
use Rattle.profile_text.proofs.ShapeFacts.{stands_for_own, stood_for, document_members_from, no_document_members_fault}
use Rattle.profile_text.proofs.StateFacts.{state_told}

bind_ok : {X Y : Type 0} (r : Result X DocFault) (next : X → Result Y DocFault) (y : Y) → (r >>= next) ≡ Ok y → (x : X) × (r ≡ Ok x) × (next x ≡ Ok y)
bind_ok (Ok x) next y e = (x, refl, e)
bind_ok (Err fault) next y e = absurd (cc)

ok_same : (p q : Profile) → ◌≡◌ {A = Result Profile DocFault} (Ok p) (Ok q) → p ≡ q
ok_same p q e = cc

-- ---- the state of the sets

abbrev HasSets : CapState → Sets → Type 0
HasSets state s = (set : CapSet) → state_set set state ≡ set_in set s

state_has_by : (s : Sets) (fault : Option CapFault) (is : fault_in s ≡ fault) (state : CapState) → state_by s fault is ≡ Ok state → HasSets state s
state_has_by s None is state e Ambient = let same : s.ambient ≡ state.ambient = cc in sym same
state_has_by s None is state e Bounding = let same : s.bounding ≡ state.bounding = cc in sym same
state_has_by s None is state e Effective = let same : s.effective ≡ state.effective = cc in sym same
state_has_by s None is state e Inheritable = let same : s.inheritable ≡ state.inheritable = cc in sym same
state_has_by s None is state e Permitted = let same : s.permitted ≡ state.permitted = cc in sym same
state_has_by s (Some fault) is state e set = absurd (cc)

pub state_has : (s : Sets) (state : CapState) → state_of s ≡ Ok state → HasSets state s
unfolding state_of
state_has s state e = state_has_by s (fault_in s) refl state e

lawful_of : (s : Sets) (state : CapState) → HasSets state s → IsLawfulState s.effective s.permitted s.inheritable s.ambient
lawful_of s state h =
    subst (λ x. IsLawfulState x s.permitted s.inheritable s.ambient) (h Effective)
    (subst (λ x. IsLawfulState state.effective x s.inheritable s.ambient) (h Permitted)
    (subst (λ x. IsLawfulState state.effective state.permitted x s.ambient) (h Inheritable)
    (subst (λ x. IsLawfulState state.effective state.permitted state.inheritable x) (h Ambient) state.lawful)))

state_from : (s : Sets) (state : CapState) → HasSets state s → state_of s ≡ Ok state
state_from s state h =
    let none = no_fault_from_lawful s.effective s.permitted s.inheritable s.ambient (lawful_of s state h) in
    sym (state_told s (Ok state) (h Effective, h Permitted, h Inheritable, h Bounding, h Ambient) (sym none))

caps_ok : (r : Result CapState CapFault) (state : CapState) → caps_or_fault r ≡ Ok state → r ≡ Ok state
caps_ok (Ok s) state e = let same : s ≡ state = cc in ap (λ x. Ok x) same
caps_ok (Err f) state e = absurd (cc)

-- ---- the sets of `capabilities`

sets_field : (ms : Members) (set : CapSet) → set_in set (sets_in ms) ≡ option_map_or set_of (member_of (set_name set) ms) 0
unfolding sets_in
sets_field ms Ambient = refl
sets_field ms Bounding = refl
sets_field ms Effective = refl
sets_field ms Inheritable = refl
sets_field ms Permitted = refl

caps_stand : (d : Data) (state : CapState) → IsCapsValue d → HasSets state (sets_of d) → StandsForCaps d state
unfolding sets_of
caps_stand (object ms) state is h = λ set.
    subst (StandsForSet (member_of (set_name set) ms)) (sym (h set ∙ sets_field ms set))
    (stands_for_own (member_of (set_name set) ms) (λ d e. (member_holds IsSetMember (set_name set) ms d is e).1))
caps_stand null state is h = absurd is
caps_stand (boolean b) state is h = absurd is
caps_stand (number n) state is h = absurd is
caps_stand (string s) state is h = absurd is
caps_stand (array ds) state is h = absurd is

caps_stood : (d : Data) (state : CapState) → StandsForCaps d state → HasSets state (sets_of d)
unfolding sets_of
caps_stood (object ms) state h = λ set. sym (sets_field ms set ∙ stood_for (member_of (set_name set) ms) (state_set set state) (h set))
caps_stood null state h = absurd h
caps_stood (boolean b) state h = absurd h
caps_stood (number n) state h = absurd h
caps_stood (string s) state h = absurd h
caps_stood (array ds) state h = absurd h

-- ---- the members of a document

missing_by : (ms : Members) (o : Option Data) → member_of (codes "capabilities") ms ≡ o → missing_faults document_rows [] ms ≡ [] → (d : Data) × (o ≡ Some d)
missing_by ms None is e = let bad = rw is at e in absurd (cc)
missing_by ms (Some d) is e = (d, refl)

none_missing : (ms : Members) (d : Data) → member_of (codes "capabilities") ms ≡ Some d → missing_faults document_rows [] ms ≡ []
none_missing ms d is = rw is refl

caps_member : (d : Data) → IsDocumentMember (codes "capabilities") d → IsCapsValue d
caps_member d (inl h) = h.1
caps_member d (inr h) = absurd (let bad : codes "capabilities" ≡ codes "seccomp" = h.0 in cc)

-- what `seccomp` stands for makes the filter
filter_stands : (ms : Members) (found : Option FilterPartsValue) (filter : Option FilterValue) → AllMembers IsDocumentMember ms → (found_in ms).filter ≡ found → filter_or_fault found ≡ Ok filter
    → StandsForFilter (member_of (codes "seccomp") ms) filter
filter_stands ms found filter all is made = (
  (found_in ms).filter,
  optional_is seccomp_faults seccomp_in IsSeccomp None seccomp_agrees (member_of (codes "seccomp") ms) (λ d at. seccomp_member d (member_holds IsDocumentMember (codes "seccomp") ms d all at)),
  subst (λ p. Makes p filter) (sym is) (makes_from found filter made),
)
  where
    seccomp_member : (d : Data) → IsDocumentMember (codes "seccomp") d → IsA IsSeccomp d
    seccomp_member d (inl h) = absurd (let bad : codes "seccomp" ≡ codes "capabilities" = h.0 in cc)
    seccomp_member d (inr h) = h.1

    lawful_by : (p : FilterPartsValue) (fault : Option FilterFault) (filter : Option FilterValue) → fault_of p ≡ fault → unless_unlawful fault (filter_of p) ≡ Ok filter → (fault_of p ≡ None) × (filter ≡ Some (filter_of p))
    lawful_by p None filter is e = let same : ◌≡◌ {A = Option FilterValue} (Some (filter_of p)) filter = cc in (is, sym same)
    lawful_by p (Some fault) filter is e = absurd (cc)

    makes_from : (p : Option FilterPartsValue) (filter : Option FilterValue) → filter_or_fault p ≡ Ok filter → Makes p filter
    makes_from None filter e = let same : ◌≡◌ {A = Option FilterValue} None filter = cc in sym same
    makes_from (Some p) filter e = lawful_by p (fault_of p) filter refl e

-- and the filter that it makes is the filter
filter_made : (p : Option FilterPartsValue) (filter : Option FilterValue) → Makes p filter → filter_or_fault p ≡ Ok filter
filter_made None filter h = rw h refl
filter_made (Some p) filter h = rw (h.0, h.1) refl

members_stand : (ms : Members) (p : Profile) (parts : Parts) → object_faults document_rows [] ms ≡ [] → parts_of (found_in ms) ≡ parts → HasSets p.caps parts.sets → filter_or_fault parts.filter ≡ Ok p.filter → MembersStandFor ms p
unfolding object_faults
members_stand ms p parts none is caps filter =
    let faultless = both_empty (members_faults document_rows [] ms) (missing_faults document_rows [] ms) none in
    let all = document_members_from [] ms faultless.0 in
    let found = missing_by ms (member_of (codes "capabilities") ms) refl faultless.1 in
    let own : sets_of found.0 ≡ parts.sets = sym (ap (λ o. unwrap_or (option_map sets_of o) no_sets) found.1) ∙ ap (λ (x : Parts). x.sets) is in
    record {
      members = all;
      caps = (found.0, found.1, caps_stand found.0 p.caps (caps_member found.0 (member_holds IsDocumentMember (codes "capabilities") ms found.0 all found.1)) (λ set. caps set ∙ ap (set_in set) (sym own)));
      filter = filter_stands ms parts.filter p.filter all (ap (λ (x : Parts). x.filter) is) filter;
    }

-- ---- the document

stands : (d : Data) (p : Profile) (parts : Parts) → unless_faulty (document_faults d) (document_parts d) ≡ Ok parts → HasSets p.caps parts.sets → filter_or_fault parts.filter ≡ Ok p.filter → StandsFor d p
unfolding document_faults document_parts
stands (object ms) p parts e caps filter = let is = ok_parts (object_faults document_rows [] ms) (parts_of (found_in ms)) parts e in members_stand ms p parts is.0 is.1 caps filter
stands null p parts e caps filter = absurd (cc)
stands (boolean b) p parts e caps filter = absurd (cc)
stands (number n) p parts e caps filter = absurd (cc)
stands (string s) p parts e caps filter = absurd (cc)
stands (array ds) p parts e caps filter = absurd (cc)

abbrev profile : CapState → Option FilterValue → Profile
profile caps filter = record { caps = caps; filter = filter }

short_by : (b : Bool) (q p : Profile) (n : ℕ) → nat_lt most_bytes n ≡ b → cond b (Err TextTooLong) (Ok q) ≡ Ok p → (n ≤ most_bytes) × (q ≡ p)
short_by true q p n is e = absurd (cc)
short_by false q p n is e = let same : q ≡ p = cc in (ltb-false most_bytes n is, same)

short_ok : (q p : Profile) → if_short q ≡ Ok p → (length (text_of q) ≤ most_bytes) × (q ≡ p)
short_ok q p e = short_by (nat_lt most_bytes (length (text_of q))) q p (length (text_of q)) refl e

profile_stands : (d : Data) (p : Profile) → profile_of d ≡ Ok p → StandsFor d p
unfolding profile_of
profile_stands d p e =
    let walk = bind_ok (unless_faulty (document_faults d) (document_parts d)) _ p e in
    let told = bind_ok (caps_or_fault (state_of walk.0.sets)) (λ caps. filter_or_fault walk.0.filter >>= (λ filter. Ok (profile caps filter))) p walk.2 in
    let made = bind_ok (filter_or_fault walk.0.filter) (λ filter. Ok (profile told.0 filter)) p told.2 in
    let same : profile told.0 made.0 ≡ p = ok_same (profile told.0 made.0) p made.2 in
    let has = state_has walk.0.sets told.0 (caps_ok (state_of walk.0.sets) told.0 told.1) in
    subst (StandsFor d) same (stands d (profile told.0 made.0) walk.0 walk.1 has made.1)

filter_stood : (ms : Members) (filter : Option FilterValue) → StandsForFilter (member_of (codes "seccomp") ms) filter → filter_or_fault (found_in ms).filter ≡ Ok filter
filter_stood ms filter h =
    ap filter_or_fault (optional_same seccomp_faults seccomp_in IsSeccomp None seccomp_agrees (member_of (codes "seccomp") ms) h.0 h.1) ∙ filter_made h.0 filter h.2

abbrev Stood : Profile → Result Parts DocFault → Type 0
Stood p reading = (parts : Parts) × (reading ≡ Ok parts) × HasSets p.caps parts.sets × (filter_or_fault parts.filter ≡ Ok p.filter)

members_stood : (ms : Members) (p : Profile) → MembersStandFor ms p → Stood p (unless_faulty (object_faults document_rows [] ms) (parts_of (found_in ms)))
unfolding object_faults
members_stood ms p h =
    let found = h.caps.1 in (
      record { sets = sets_of h.caps.0; filter = (found_in ms).filter },
      rw (no_document_members_fault [] ms h.members, none_missing ms h.caps.0 found, found) refl,
      caps_stood h.caps.0 p.caps h.caps.2,
      filter_stood ms p.filter h.filter,
    )

stood : (d : Data) (p : Profile) → StandsFor d p → Stood p (unless_faulty (document_faults d) (document_parts d))
unfolding document_faults document_parts
stood (object ms) p h = members_stood ms p h
stood null p h = absurd h
stood (boolean b) p h = absurd h
stood (number n) p h = absurd h
stood (string s) p h = absurd h
stood (array ds) p h = absurd h

profile_stood : (d : Data) (p : Profile) → StandsFor d p → profile_of d ≡ Ok p
unfolding profile_of
profile_stood d p h =
    let walk = stood d p h in
    rw (walk.1, state_from walk.0.sets p.caps walk.2, walk.3) refl

-- ---- the bytes

json_by : (o : Option Data) (p : Profile) → profile_of_json o ≡ Ok p → (d : Data) × (o ≡ Some d) × (profile_of d ≡ Ok p)
json_by None p e = absurd (cc)
json_by (Some d) p e = (d, refl, e)

reading_by : (b : Bool) (r : Result Profile DocFault) (p : Profile) (n : ℕ) → nat_lt most_bytes n ≡ b → cond b (Err TooLong) r ≡ Ok p → (n ≤ most_bytes) × (r ≡ Ok p)
reading_by true r p n is e = absurd (cc)
reading_by false r p n is e = (ltb-false most_bytes n is, e)

-- the bytes are few enough, and are a JSON value that stands for the profile
stored_stands : (bytes : List ℕ) (p : Profile) → stored_reading_of bytes ≡ Ok p → (length bytes ≤ most_bytes) × ((d : Data) × (json_of bytes ≡ Some d) × StandsFor d p)
unfolding stored_reading_of
stored_stands bytes p e =
    let short = reading_by (nat_lt most_bytes (length bytes)) (profile_of_json (json_of bytes)) p (length bytes) refl e in
    let json = json_by (json_of bytes) p short.1 in
    (short.0, (json.0, json.1, profile_stands json.0 p json.2))

stored_stood : (bytes : List ℕ) (p : Profile) → Reads bytes p → stored_reading_of bytes ≡ Ok p
unfolding stored_reading_of
stored_stood bytes p h = rw (le-ltb most_bytes (length bytes) h.short, h.stands.1) (profile_stood h.stands.0 p h.stands.2)

-- what bytes read as is what they read as where they are kept, and its text is short enough
pub stored_from : (bytes : List ℕ) (p : Profile) → reading_of bytes ≡ Ok p → (stored_reading_of bytes ≡ Ok p) × (length (text_of p) ≤ most_bytes)
unfolding reading_of
stored_from bytes p e =
    let read = bind_ok (stored_reading_of bytes) if_short p e in
    let short = short_ok read.0 p read.2 in
    (read.1 ∙ ap (λ q. Ok q) short.1, subst (λ (q : Profile). length (text_of q) ≤ most_bytes) short.1 short.0)

pub reads_from : (bytes : List ℕ) (p : Profile) → reading_of bytes ≡ Ok p → Reads bytes p
reads_from bytes p e =
    let stored = stored_from bytes p e in
    let found = stored_stands bytes p stored.0 in
    record { short = found.0; stands = found.1; text = stored.1 }

pub reading_from : (bytes : List ℕ) (p : Profile) → Reads bytes p → reading_of bytes ≡ Ok p
unfolding reading_of
reading_from bytes p h = rw (stored_stood bytes p h, le-ltb most_bytes (length (text_of p)) h.text) refl

-- what a reader gives stands for the bytes
pub stands_given : {X : Type 0} (seen : X → Profile) (bytes : List ℕ) (given : Result X DocFault) → GivesAs seen given (reading_of bytes)
    → IfOk given (λ x. Reads bytes (seen x))
stands_given seen bytes (Ok x) e = reads_from bytes (seen x) e
stands_given seen bytes (Err fault) e = tt
