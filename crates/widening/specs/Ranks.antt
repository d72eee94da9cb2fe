-- What the ranks of a name's entries show without a look at their comparisons, and which entries
-- must imply another.
use Rattle.std.specs.Prelude.{◌≡◌, ℕ, ◌≤◌, List, Bool, false, not, ◌&&◌, ◌||◌, nat_le, nat_lt}
use Rattle.std.specs.Prelude.{Option, Some, None}
use Rattle.std.specs.List.{list_all, list_any}
use Rattle.seccomp_doc.specs.declared.action.Action.{Action}
use Rattle.seccomp_doc.specs.Action.{rank_of}
use Rattle.seccomp_doc.specs.Filter.{EntryValue}
use Rattle.implication.specs.Implication.{entry_implies}
use Rattle.widening.specs.declared.ranks.Ranks.{Ranks}
use Rattle.widening.specs.declared.ranks.Span.{Span}
use Rattle.widening.specs.Calls.{Rules, entry_rank, is_at_most_entries, is_plain}

abbrev pub rules_with : Action → List EntryValue → Rules
rules_with default entries = record { default = default; entries = entries }

-- the rank of the default; the least and the greatest of the entries, by the ranks that are at most
-- all of them and at least all of them; and whether an entry compares no argument
pub record AreRanksOf (ranks : Ranks) (rules : Rules) : Type 0 where
  pub default : ranks.default ≡ rank_of rules.default
  pub least : (rank : ℕ) → rank ≤ 6
      → nat_le rank ranks.least ≡ is_at_most_entries rank rules.entries
  pub greatest : (rank : ℕ)
      → nat_le ranks.greatest rank ≡ list_all (λ e. nat_le (entry_rank e) rank) rules.entries
  pub plain : ranks.has_plain ≡ list_any is_plain rules.entries

-- the rank of the entry is in the span
abbrev pub is_in : Span → EntryValue → Bool
is_in span e = nat_le span.first (entry_rank e) && nat_lt (entry_rank e) span.end

-- each entry with a rank in the span implies one of the others; without a span none would do
abbrev pub do_imply : Option Span → List EntryValue → List EntryValue → Bool
do_imply None entries others = false
do_imply (Some span) entries others =
    list_all (λ e. not (is_in span e) || list_any (entry_implies e) others) entries
