-- Whether something is found, and one finding more.
use Rattle.std.proofs.Common.{◌≡◌, ◌∙◌, ap, refl, sym, ℕ, zero, suc, ◌+◌, ◌<◌, List, [], ◌∷◌, ◌++◌, Bool, true, false, not, cond, ◌||◌, ◌&&◌, map, length, take, get_or, nat_lt, bytes_eq, append_assoc, add-one, arith}
use Rattle.std.specs.Prelude.{filter, flat_map}
use Rattle.std.specs.List.{list_any, range_with_len}
use Rattle.std.proofs.lemmas.List.{append-nil, map-append, take_more}
use Rattle.std.proofs.lemmas.List.Elements.{filter-append}
use Rattle.std.proofs.lemmas.List.Folds.{list_any-append}
use Rattle.cap_sets.specs.declared.state.CapState.{CapState}
use Rattle.seccomp_doc.specs.Action.{rank_of}
use Rattle.seccomp_doc.specs.Filter.{FilterValue}
use Rattle.profile_text.specs.declared.profile.Profile.{Profile}
use Rattle.profile_text.specs.declared.sets.CapSet.{CapSet}
use Rattle.profile_text.specs.declared.sets.CapSet.TheVariants.{Effective, Permitted, Inheritable, Bounding, Ambient}
use Rattle.profile_text.specs.Reads.{state_set}
use Rattle.widening.specs.declared.finding.Finding.{Finding}
use Rattle.widening.specs.declared.finding.Finding.TheVariants.{AnyArch, Arch, Call, Cap, Default, Flag}
use Rattle.widening.specs.Calls.{entry_names, is_permitted_more}
use Rattle.widening.specs.Findings.{arch_findings, between_filters, call_findings, call_names, cap_findings, compared_sets, default_findings, filter_findings, findings_of, flag_findings, gained, gains, is_emptied, is_found, is_gained, is_wider, set_findings}
use Rattle.widening.specs.Texts.{added_texts, adds_a_text, each_once, lists}
use Rattle.widening.proofs.TextFacts.{bytes_eq-swap, list_any-each_once, list_any-in_byte_order}

pub is_found-append : (xs ys : List Finding) → is_found (xs ++ ys) ≡ (is_found xs || is_found ys)
is_found-append [] ys = refl
is_found-append (x ∷ xs) ys = refl

-- something is found where an element passes
pub is_found-filter : {X : Type 0} (f : X → Finding) (p : X → Bool) (xs : List X) → is_found (map f (filter p xs)) ≡ list_any p xs
is_found-filter f p [] = refl
is_found-filter f p (x ∷ xs) = elim (p x) as (λ b. is_found (map f (cond b (x ∷ filter p xs) (filter p xs))) ≡ (b || list_any p xs)) [
  | true ↦ refl
  | false ↦ is_found-filter f p xs
]

pub is_found-added : (f : List ℕ → Finding) (base new : List (List ℕ)) → is_found (map f (added_texts base new)) ≡ list_any (λ text. not (lists base text)) new
is_found-added f base new = is_found-filter f (λ text. not (lists base text)) (each_once new) ∙ list_any-each_once (λ text. not (lists base text)) new

-- ---- one more

pub filter-push : {X Y : Type 0} (f : X → Y) (p : X → Bool) (start : List Y) (xs : List X) (x : X) →
    (start ++ map f (filter p xs)) ++ cond (p x) (f x ∷ []) [] ≡ start ++ map f (filter p (xs ++ x ∷ []))
filter-push f p start xs x =
    append_assoc start (map f (filter p xs)) (cond (p x) (f x ∷ []) [])
    ∙ ap (λ ys. start ++ ys) (
    elim (p x) as (λ b. map f (filter p xs) ++ cond b (f x ∷ []) [] ≡ map f (filter p xs) ++ map f (cond b (x ∷ []) [])) [ true ↦ refl | false ↦ refl ]
    ∙ sym (map-append f (filter p xs) (filter p (x ∷ [])))
    ∙ ap (map f) (sym (filter-append p xs (x ∷ [])))
    )

pub range_with_len-push : (from count : ℕ) → range_with_len from (suc count) ≡ range_with_len from count ++ (from + count) ∷ []
range_with_len-push from zero = ap (λ n. n ∷ []) (omega arith)
range_with_len-push from (suc count) =
    ap (λ ns. from ∷ ns) (range_with_len-push (from + 1) count)
    ∙ ap (λ n. from ∷ (range_with_len (from + 1) count ++ n ∷ [])) (omega arith)

last_kept : (text last : List ℕ) (b : Bool) → filter (λ other. not (bytes_eq text other)) (cond b [] (last ∷ [])) ≡ cond (bytes_eq last text || b) [] (last ∷ [])
last_kept text last true =
    let none : List (List ℕ) = [] in
    elim (bytes_eq last text) as (λ a. none ≡ cond (a || true) [] (last ∷ [])) [ true ↦ refl | false ↦ refl ]
last_kept text last false =
    ap (λ a. cond (not a) (last ∷ []) []) (bytes_eq-swap text last)
    ∙ elim (bytes_eq last text) as (λ a. cond (not a) (last ∷ []) [] ≡ cond (a || false) [] (last ∷ [])) [ true ↦ refl | false ↦ refl ]

-- one text more is there once
pub each_once-push : (texts : List (List ℕ)) (last : List ℕ) → each_once (texts ++ last ∷ []) ≡ each_once texts ++ cond (lists texts last) [] (last ∷ [])
each_once-push [] last = refl
each_once-push (text ∷ texts) last =
    let others : List ℕ → Bool = λ other. not (bytes_eq text other) in
    ap (λ ts. text ∷ filter others ts) (each_once-push texts last)
    ∙ ap (λ ts. text ∷ ts) (filter-append others (each_once texts) (cond (lists texts last) [] (last ∷ [])))
    ∙ ap (λ ts. text ∷ (filter others (each_once texts) ++ ts)) (last_kept text last (lists texts last))

-- a text more, where it is added
pub added-push : (base texts : List (List ℕ)) (last : List ℕ) →
    added_texts base (texts ++ last ∷ []) ≡ added_texts base texts ++ cond (not (lists texts last)) (cond (not (lists base last)) (last ∷ []) []) []
added-push base texts last =
    let new : List ℕ → Bool = λ text. not (lists base text) in
    ap (filter new) (each_once-push texts last)
    ∙ filter-append new (each_once texts) (cond (lists texts last) [] (last ∷ []))
    ∙ ap (λ ts. filter new (each_once texts) ++ ts)
    (elim (lists texts last) as (λ b. filter new (cond b [] (last ∷ [])) ≡ cond (not b) (cond (not (lists base last)) (last ∷ []) []) []) [ true ↦ refl | false ↦ refl ])

or_exchange : (a b c : Bool) → ((a || b) || c) ≡ ((a || c) || b)
or_exchange true b c = refl
or_exchange false true true = refl
or_exchange false true false = refl
or_exchange false false true = refl
or_exchange false false false = refl

-- an architecture is found, or only the new list is empty
is_found-architectures : (base new : List (List ℕ)) → is_found (arch_findings base new) ≡ (is_emptied base new || adds_a_text base new)
is_found-architectures base new =
    elim (is_emptied base new) as (λ b. is_found (cond b (AnyArch ∷ []) (map Arch (added_texts base new))) ≡ (b || adds_a_text base new)) [
      | true ↦ refl
      | false ↦ is_found-added Arch base new
    ]

-- a call is found, where a name of either filter fails
pub found_calls : (base new : FilterValue) → is_found (call_findings base new)
    ≡ (list_any (is_permitted_more base new) (entry_names base.entries) || list_any (is_permitted_more base new) (entry_names new.entries))
found_calls base new =
    is_found-filter Call (is_permitted_more base new) (call_names base new)
    ∙ list_any-in_byte_order (is_permitted_more base new) (entry_names base.entries ++ entry_names new.entries)
    ∙ list_any-append (is_permitted_more base new) (entry_names base.entries) (entry_names new.entries)

-- something is found besides calls
abbrev pub is_setting_found : FilterValue → FilterValue → Bool
is_setting_found base new =
    ((is_emptied base.architectures new.architectures || adds_a_text base.architectures new.architectures) || adds_a_text base.flags new.flags)
    || nat_lt (rank_of base.default) (rank_of new.default)

-- between two filters
pub found_between : (base new : FilterValue) → is_found (between_filters base new) ≡ (is_setting_found base new || is_found (call_findings base new))
found_between base new =
    let archs = arch_findings base.architectures new.architectures in
    let flags = flag_findings base.flags new.flags in
    is_found-append (archs ++ flags ++ call_findings base new) (default_findings base new)
    ∙ ap (λ b. b || is_found (default_findings base new)) (
    is_found-append (archs ++ flags) (call_findings base new)
    ∙ ap (λ b. b || is_found (call_findings base new)) (
    is_found-append archs flags
    ∙ ap (λ b. b || is_found flags) (is_found-architectures base.architectures new.architectures)
    ∙ ap (λ b. (is_emptied base.architectures new.architectures || adds_a_text base.architectures new.architectures) || b) (is_found-added Flag base.flags new.flags)
    )
    )
    ∙ ap (λ b. (((is_emptied base.architectures new.architectures || adds_a_text base.architectures new.architectures) || adds_a_text base.flags new.flags) || is_found (call_findings base new)) || b)
    (elim (nat_lt (rank_of base.default) (rank_of new.default)) as (λ b. is_found (cond b (Default ∷ []) []) ≡ b) [ true ↦ refl | false ↦ refl ])
    ∙ or_exchange ((is_emptied base.architectures new.architectures || adds_a_text base.architectures new.architectures) || adds_a_text base.flags new.flags)
    (is_found (call_findings base new)) (nat_lt (rank_of base.default) (rank_of new.default))

-- between two profiles
pub found_in_all : (base new : Profile) → is_wider base new ≡ (is_found (cap_findings base.caps new.caps) || is_found (filter_findings base.filter new.filter))
unfolding findings_of
found_in_all base new = is_found-append (cap_findings base.caps new.caps) (filter_findings base.filter new.filter)

-- ---- one more text of a list

module _ (f : List ℕ → Finding) (start : List Finding) (base new : List (List ℕ)) (i : ℕ) (text : List ℕ) (within : i < length new) (is : text ≡ get_or new i text) where
  more : added_texts base (take (i + 1) new) ≡ added_texts base (take i new) ++ cond (not (lists (take i new) text) && not (lists base text)) (text ∷ []) []
  more =
      ap (added_texts base) (take_more new i text within ∙ ap (λ t. take i new ++ t ∷ []) (sym is))
      ∙ added-push base (take i new) text
      ∙ ap (λ ts. added_texts base (take i new) ++ ts)
      (elim (lists (take i new) text) as (λ a. cond (not a) (cond (not (lists base text)) (text ∷ []) []) [] ≡ cond (not a && not (lists base text)) (text ∷ []) []) [ true ↦ refl | false ↦ refl ])

  pub text_more : (items pushed : List Finding) (earlier : List (List ℕ)) → items ≡ start ++ map f (added_texts base (take i new)) →
      pushed ≡ items ++ cond (not (lists earlier text) && not (lists base text)) (f text ∷ []) [] → earlier ≡ take i new →
      pushed ≡ start ++ map f (added_texts base (take (i + 1) new))
  text_more items pushed earlier before push same =
      push ∙ ap (λ ts. items ++ cond (not (lists ts text) && not (lists base text)) (f text ∷ []) []) same
      ∙ ap (λ xs. xs ++ cond (not (lists (take i new) text) && not (lists base text)) (f text ∷ []) []) before
      ∙ append_assoc start (map f (added_texts base (take i new))) (cond (not (lists (take i new) text) && not (lists base text)) (f text ∷ []) [])
      ∙ ap (λ xs. start ++ xs) (
      elim (not (lists (take i new) text) && not (lists base text)) as (λ b. map f (added_texts base (take i new)) ++ cond b (f text ∷ []) [] ≡ map f (added_texts base (take i new)) ++ map f (cond b (text ∷ []) [])) [ true ↦ refl | false ↦ refl ]
      ∙ sym (map-append f (added_texts base (take i new)) (cond (not (lists (take i new) text) && not (lists base text)) (text ∷ []) []))
      ∙ ap (map f) (sym more)
      )

-- ---- one number more of a range

pub number_more : {X : Type 0} (f : ℕ → X) (p : ℕ → Bool) (number : ℕ) (start items pushed : List X) → items ≡ start ++ map f (filter p (range_with_len 0 number)) →
    pushed ≡ items ++ cond (p number) (f number ∷ []) [] → pushed ≡ start ++ map f (filter p (range_with_len 0 (number + 1)))
number_more f p number start items pushed before push =
    push ∙ ap (λ xs. xs ++ cond (p number) (f number ∷ []) []) before
    ∙ filter-push f p start (range_with_len 0 number) number
    ∙ ap (λ ns. start ++ map f (filter p ns))
    (ap (λ n. range_with_len 0 number ++ n ∷ []) (omega arith) ∙ sym (range_with_len-push 0 number) ∙ ap (range_with_len 0) (sym (add-one number)))

-- ---- one name more of those that were looked at

-- ---- five sets, one after another

-- the capabilities of the five sets, one set after another
pub five_found : (f : CapSet → List Finding) (start one two three four five : List Finding) →
    one ≡ start ++ f Effective → two ≡ one ++ f Permitted → three ≡ two ++ f Inheritable → four ≡ three ++ f Bounding → five ≡ four ++ f Ambient →
    five ≡ start ++ flat_map f compared_sets
five_found f start one two three four five p q r s t =
    t ∙ ap (λ xs. xs ++ f Ambient) (s ∙ ap (λ xs. xs ++ f Bounding) (r ∙ ap (λ xs. xs ++ f Inheritable) (q ∙ ap (λ xs. xs ++ f Permitted) p))) ∙ simp (append_assoc, append-nil)

five_or : (a b c d e : Bool) → (a || (b || (c || (d || (e || false))))) ≡ ((((a || b) || c) || d) || e)
five_or true b c d e = refl
five_or false true c d e = refl
five_or false false true d e = refl
five_or false false false true e = refl
five_or false false false false true = refl
five_or false false false false false = refl

-- some set gains a capability
pub found_caps : (base new : CapState) → is_found (cap_findings base new)
    ≡ ((((gains base.effective new.effective || gains base.permitted new.permitted) || gains base.inheritable new.inheritable) || gains base.bounding new.bounding)
    || gains base.ambient new.ambient)
unfolding gained gains
found_caps base new =
    let g : CapSet → Bool = λ set. gains (state_set set base) (state_set set new) in
    let one : (set : CapSet) → is_found (set_findings base new set) ≡ g set = λ set. is_found-filter (Cap set) (is_gained (state_set set base) (state_set set new)) (range_with_len 0 41) in
    let rest : (set : CapSet) (others : List Finding) (b : Bool) → is_found others ≡ b → is_found (set_findings base new set ++ others) ≡ (g set || b) =
    λ set others b e. is_found-append (set_findings base new set) others ∙ ap (λ x. x || is_found others) (one set) ∙ ap (λ x. g set || x) e in
    rest Effective _ _ (rest Permitted _ _ (rest Inheritable _ _ (rest Bounding _ _ (rest Ambient [] false refl))))
    ∙ five_or (g Effective) (g Permitted) (g Inheritable) (g Bounding) (g Ambient)
