-- What a filter says of the calls of one name, and when a new filter says no more than its
-- baseline. Actions are ordered by rank, as in seccomp(2), and the entries of a name are
-- alternatives, as in seccomp_rule_add(3).
use Rattle.std.specs.Prelude.{ℕ, List, Bool, not, ◌&&◌, ◌||◌, ◌==◌, nat_le, filter, flat_map}
use Rattle.std.specs.Prelude.{length}
use Rattle.std.specs.List.{list_all, list_any}
use Rattle.seccomp_doc.specs.declared.action.Action.{Action}
use Rattle.seccomp_doc.specs.Action.{rank_of}
use Rattle.seccomp_doc.specs.Filter.{EntryValue, FilterValue}
use Rattle.seccomp_doc.specs.Meaning.{has_name}
use Rattle.implication.specs.Implication.{entry_implies}

-- the default, and the entries of the name
pub record Rules : Type 0 where
  pub default : Action
  pub entries : List EntryValue

-- what a filter says of a name
abbrev pub rules_of : List ℕ → FilterValue → Rules
rules_of name f = record { default = f.default; entries = filter (has_name name) f.entries }

abbrev pub entry_rank : EntryValue → ℕ
entry_rank e = rank_of e.action

-- an entry compares no argument, so it matches every call of its names
abbrev pub is_plain : EntryValue → Bool
is_plain e = length e.args == 0

-- a rank is at most those of the entries
abbrev pub is_at_most_entries : ℕ → List EntryValue → Bool
is_at_most_entries rank entries = list_all (λ e. nat_le rank (entry_rank e)) entries

-- a rank is at most all that a call of the name may have: those of the entries, and that of the
-- default, unless an entry matches every call
abbrev pub is_at_most_possible : ℕ → Rules → Bool
is_at_most_possible rank rules =
    is_at_most_entries rank rules.entries
    && (list_any is_plain rules.entries || nat_le rank (rank_of rules.default))

-- an entry permits no more than the baseline's rules: its rank is at most all that a call may have
-- by these. Else the rank is at most those of the baseline's entries, and the entry implies one of
-- them.
abbrev pub is_covered : Rules → EntryValue → Bool
is_covered base e =
    is_at_most_possible (entry_rank e) base
    || (is_at_most_entries (entry_rank e) base.entries && list_any (entry_implies e) base.entries)

-- an entry of the baseline with a rank below that of the new default implies a new entry
abbrev pub is_kept : Rules → EntryValue → Bool
is_kept new b =
    nat_le (rank_of new.default) (entry_rank b) || list_any (entry_implies b) new.entries

-- where no new entry matches, the new default permits no more: an entry always matches; or its rank
-- is at most all that a call may have under the baseline; or it is at most that of the baseline's
-- default, and each stricter entry is kept
abbrev pub is_default_covered : Rules → Rules → Bool
is_default_covered base new =
    list_any is_plain new.entries
    || is_at_most_possible (rank_of new.default) base
    || (nat_le (rank_of new.default) (rank_of base.default) && list_all (is_kept new) base.entries)

-- the new rules permit no more
abbrev pub permits_no_more : Rules → Rules → Bool
permits_no_more base new = list_all (is_covered base) new.entries && is_default_covered base new

-- a name is permitted no more by the new filter than by the baseline's
abbrev pub keeps_to : FilterValue → FilterValue → List ℕ → Bool
keeps_to base new name = permits_no_more (rules_of name base) (rules_of name new)

-- a call of the name may be permitted more
abbrev pub is_permitted_more : FilterValue → FilterValue → List ℕ → Bool
is_permitted_more base new name = not (keeps_to base new name)

-- the names of the entries, as they stand
abbrev pub entry_names : List EntryValue → List (List ℕ)
entry_names entries = flat_map (λ e. e.names) entries
