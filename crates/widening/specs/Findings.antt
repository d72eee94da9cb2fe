-- What a new profile permits, or may permit, and its baseline doesn't: the list of findings, in its
-- order.
use Rattle.std.specs.Prelude.{ℕ, ◌==◌, List, [], ◌∷◌, ◌++◌, Bool, true, false, not, ◌&&◌, nat_lt}
use Rattle.std.specs.Prelude.{if◌then◌else◌, Option, Some, None, filter, map, flat_map, length}
use Rattle.std.specs.Int.{bit_at}
use Rattle.std.specs.List.{list_any, range_with_len}
use Rattle.cap_sets.specs.declared.state.CapState.{CapState}
use Rattle.seccomp_doc.specs.Action.{rank_of}
use Rattle.seccomp_doc.specs.Filter.{FilterValue}
use Rattle.profile_text.specs.declared.profile.Profile.{Profile}
use Rattle.profile_text.specs.declared.sets.CapSet.{CapSet}
use Rattle.profile_text.specs.declared.sets.CapSet.TheVariants.{Effective, Permitted, Inheritable}
use Rattle.profile_text.specs.declared.sets.CapSet.TheVariants.{Bounding, Ambient}
use Rattle.profile_text.specs.Reads.{state_set}
use Rattle.widening.specs.declared.finding.Finding.{Finding}
use Rattle.widening.specs.declared.finding.Finding.TheVariants.{Cap, NoSeccomp, AnyArch, Arch, Flag}
use Rattle.widening.specs.declared.finding.Finding.TheVariants.{Call, Default}
use Rattle.widening.specs.Calls.{entry_names, is_permitted_more}
use Rattle.widening.specs.Texts.{added_texts, in_byte_order}

-- the five sets of capabilities(7), in the order of the findings
abbrev pub compared_sets : List CapSet
compared_sets = Effective ∷ Permitted ∷ Inheritable ∷ Bounding ∷ Ambient ∷ []

-- the new set has the capability of this number, and the baseline's hasn't
abbrev pub is_gained : ℕ → ℕ → ℕ → Bool
is_gained base new n = bit_at new n == 1 && not (bit_at base n == 1)

-- the capabilities of a set that the baseline's hasn't, by rising number
unfoldable pub gained : ℕ → ℕ → List ℕ
gained base new = filter (is_gained base new) (range_with_len 0 41)

-- the new set has a capability that the baseline's hasn't
unfoldable pub gains : ℕ → ℕ → Bool
gains base new = list_any (is_gained base new) (range_with_len 0 41)

abbrev pub set_findings : CapState → CapState → CapSet → List Finding
set_findings base new set = map (Cap set) (gained (state_set set base) (state_set set new))

-- each capability that a new set has and the baseline's hasn't
abbrev pub cap_findings : CapState → CapState → List Finding
cap_findings base new = flat_map (set_findings base new) compared_sets

-- only the new list is empty
abbrev pub is_emptied : List (List ℕ) → List (List ℕ) → Bool
is_emptied base new = length new == 0 && not (length base == 0)

-- each architecture that the baseline doesn't list; an empty list stands for any
abbrev pub arch_findings : List (List ℕ) → List (List ℕ) → List Finding
arch_findings base new =
    if is_emptied base new then AnyArch ∷ [] else map Arch (added_texts base new)

-- each flag that the baseline doesn't list; a flag that is missing is no finding
abbrev pub flag_findings : List (List ℕ) → List (List ℕ) → List Finding
flag_findings base new = map Flag (added_texts base new)

-- the names of either filter's entries, in byte order
abbrev pub call_names : FilterValue → FilterValue → List (List ℕ)
call_names base new = in_byte_order (entry_names base.entries ++ entry_names new.entries)

-- a name, where the new filter may permit its calls more
abbrev pub call_finding : FilterValue → FilterValue → List ℕ → List Finding
call_finding base new name = if is_permitted_more base new name then Call name ∷ [] else []

-- each name whose calls the new filter may permit more
abbrev pub call_findings : FilterValue → FilterValue → List Finding
call_findings base new = map Call (filter (is_permitted_more base new) (call_names base new))

-- a call that neither filter names is permitted more
abbrev pub default_findings : FilterValue → FilterValue → List Finding
default_findings base new =
    if nat_lt (rank_of base.default) (rank_of new.default) then Default ∷ [] else []

abbrev pub between_filters : FilterValue → FilterValue → List Finding
between_filters base new =
    arch_findings base.architectures new.architectures
    ++ flag_findings base.flags new.flags
    ++ call_findings base new
    ++ default_findings base new

-- a baseline without a filter permits every call; a new profile without one does, where the
-- baseline has one
abbrev pub filter_findings : Option FilterValue → Option FilterValue → List Finding
filter_findings None new = []
filter_findings (Some base) None = NoSeccomp ∷ []
filter_findings (Some base) (Some new) = between_filters base new

-- all findings
unfoldable pub findings_of : Profile → Profile → List Finding
findings_of base new = cap_findings base.caps new.caps ++ filter_findings base.filter new.filter

-- the name of the call that a finding is of, if it is of one
abbrev pub called_by : Finding → List (List ℕ)
called_by (Call name) = name ∷ []
called_by finding = []

-- the names of the calls that are found, in the order of the findings
abbrev pub called : List Finding → List (List ℕ)
called found = flat_map called_by found

-- something was found
abbrev pub is_found : List Finding → Bool
is_found [] = false
is_found (_ ∷ _) = true

-- the new profile is taken to permit more than the baseline
abbrev pub is_wider : Profile → Profile → Bool
is_wider base new = is_found (findings_of base new)
