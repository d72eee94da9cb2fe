-- Where two offices answer by other rows, their tables differ at the key that is named.
use Rattle.std.proofs.Common.{inl, inr, List, [], ◌∷◌, map, Some, sym, ap, subst, ◌∙◌}
use Rattle.std.specs.Prelude.{bytes_eq, slice_get}
use Rattle.std.specs.List.Sorted.{IsPermutation}
use Rattle.std.proofs.lemmas.Slice.Eq.{bytes_eq-Decides}
use Rattle.sqlite.specs.Effect.{Database}
use Rattle.sqlite.specs.Held.{Held, state}
use Rattle.sqlite.specs.Order.{Row}
use Rattle.sqlite.specs.Store.{Ghosts}
use Rattle.office_words.specs.Tables.{Tables, is_profile}
use Rattle.office_store.specs.Entries.{IsBaseline, IsProfileName, IsRevision, IsUser, IsVote, baseline_row, hold_row, revision_key, revision_row, same_revision, same_vote, user_row, vote_row}
use Rattle.office_store.specs.Shown.{IsOffice, Shows}
use Rattle.office_store.proofs.Profiles.{profiles_decide, revisions_decide, votes_decide}
use Rattle.journal_faults.specs.declared.difference.Difference.{Difference}
use Rattle.journal_faults.specs.declared.difference.Difference.TheVariants as difference
use Rattle.journal_faults.specs.declared.table.Table.{Table}
use Rattle.journal_faults.specs.declared.table.Table.TheVariants as table
use Rattle.journal_verification.specs.Compared.{Differs}
use Rattle.journal_verification.specs.Different.{DifferAt}
use Rattle.journal_verification.specs.Differing.{StandsFirst}
use Rattle.journal_verification.specs.Named.{IsKeyOf, IsNamed}
use Rattle.journal_verification.specs.Same.{IsAnsweredBy, TellsTable}
use Rattle.journal_verification.specs.Texts.{key_width, rows_text}
use Rattle.journal_verification.proofs.Keys.{baseline_columns, baseline_key, baseline_keyed, baseline_named, baseline_showed, baseline_sorts, baseline_tied, hold_columns, hold_key, hold_keyed, hold_named, hold_showed, hold_sorts, hold_tied, revision_columns, revision_keyed, revision_named, revision_showed, revision_sorts, revision_tied, user_columns, user_key, user_keyed, user_named, user_showed, user_sorts, user_tied, vote_columns, vote_key, vote_keyed, vote_named, vote_showed, vote_sorts, vote_tied}
use Rattle.journal_verification.proofs.Offices.{office_columns, one_permuted, rows_shown, shown}
use Rattle.journal_verification.proofs.Telling.{only_in}

back : (t u : Tables) (d : Difference) → DifferAt u t d → DifferAt t u d
back t u difference.Schema h = h
back t u difference.Line h = h
back t u difference.Office h = λ equal. h (sym equal)
back t u (difference.User name) h = λ equal. h (sym equal)
back t u (difference.Revision p number) h = λ equal. h (sym equal)
back t u (difference.Vote p number voter) h = λ equal. h (sym equal)
back t u (difference.Baseline team) h = λ equal. h (sym equal)
back t u (difference.Hold p) h = λ equal. h (sym equal)
back t u (difference.Row s) h = tt

module _ {S T : Type 0} (g : Ghosts S) (f : Ghosts T) (a b : Database) (t u : Tables) (o : IsOffice a t) (p : IsOffice b u) (left right : List Row) (row : Row) where
  office_named : IsAnsweredBy g (rows_text table.Office) a left → IsAnsweredBy f (rows_text table.Office) b right → StandsFirst (key_width table.Office) left right row → (d : Difference) → IsKeyOf table.Office row d → DifferAt t u d
  office_named in_a in_b stands difference.Schema h = absurd h
  office_named in_a in_b stands difference.Line h = absurd h
  office_named in_a in_b stands difference.Office h = λ equal.
      let first = one_permuted (office_columns t.listed) left (subst (λ l. IsPermutation (map (shown table.Office) l) left) o.office (rows_shown g a o.schema table.Office left in_a)) in
      let second = one_permuted (office_columns u.listed) right (subst (λ l. IsPermutation (map (shown table.Office) l) right) p.office (rows_shown f b p.schema table.Office right in_b)) in
      stands.differ.differ (ap (λ (l : List Row). slice_get l stands.at) (first ∙ (λ i. office_columns (equal i) ∷ []) ∙ sym second))
  office_named in_a in_b stands (difference.User name) h = absurd (let k = h.0 in cc)
  office_named in_a in_b stands (difference.Revision p number) h = absurd (let k = h.0 in cc)
  office_named in_a in_b stands (difference.Vote p number voter) h = absurd (let k = h.0 in cc)
  office_named in_a in_b stands (difference.Baseline team) h = absurd (let k = h.0 in cc)
  office_named in_a in_b stands (difference.Hold p) h = absurd (let k = h.0 in cc)
  office_named in_a in_b stands (difference.Row s) h = tt

  one_side : (x : Table) → IsAnsweredBy g (rows_text x) a left → IsAnsweredBy f (rows_text x) b right → StandsFirst (key_width x) left right row → (d : Difference) → IsNamed x row d → DifferAt t u d
  one_side x in_a in_b stands d (inr h) = subst (DifferAt t u) (sym h.0) tt
  one_side table.Office in_a in_b stands d (inl h) = office_named in_a in_b stands d h
  one_side table.Users in_a in_b stands d (inl h) = user_named a b t u o p row (only_in user_row user_keyed bytes_eq bytes_eq-Decides user_key IsUser table.Users user_showed user_sorts user_tied user_columns g f a b o.schema p.schema left right row in_a in_b o.users p.users stands) d h
  one_side table.Revisions in_a in_b stands d (inl h) = revision_named a b t u o p row (only_in revision_row revision_keyed same_revision revisions_decide revision_key IsRevision table.Revisions revision_showed revision_sorts revision_tied revision_columns g f a b o.schema p.schema left right row in_a in_b o.revisions p.revisions stands) d h
  one_side table.Votes in_a in_b stands d (inl h) = vote_named a b t u o p row (only_in vote_row vote_keyed same_vote votes_decide vote_key IsVote table.Votes vote_showed vote_sorts vote_tied vote_columns g f a b o.schema p.schema left right row in_a in_b o.votes p.votes stands) d h
  one_side table.Baselines in_a in_b stands d (inl h) = baseline_named a b t u o p row (only_in baseline_row baseline_keyed bytes_eq bytes_eq-Decides baseline_key IsBaseline table.Baselines baseline_showed baseline_sorts baseline_tied baseline_columns g f a b o.schema p.schema left right row in_a in_b o.baselines p.baselines stands) d h
  one_side table.Holds in_a in_b stands d (inl h) = hold_named a b t u o p row (only_in hold_row hold_keyed is_profile profiles_decide hold_key IsProfileName table.Holds hold_showed hold_sorts hold_tied hold_columns g f a b o.schema p.schema left right row in_a in_b o.holds p.holds stands) d h

module _ {S T : Type 0} (g : Ghosts S) (f : Ghosts T) (built : Held S) (office : Held T) (t u : Tables) (d : Difference) (first : Shows (state g built) t) (second : Shows (state f office) u) where
  -- a table that differs differs at the key
  differ_in : (x : Table) → TellsTable g f x (state g built).now (state f office).now (Some d) → DifferAt t u d
  differ_in x (inr fall) = subst (DifferAt t u) (sym fall.1.0) tt
  differ_in x (inl other) = elim other.differs [
    | inl stands ↦ one_side g f (state g built).now (state f office).now t u first.office second.office other.left other.right other.row x other.in_first other.in_second stands d other.named
    | inr stands ↦ back t u d (one_side f g (state f office).now (state g built).now u t second.office first.office other.right other.left other.row x other.in_second other.in_first stands d other.named)
  ]

  pub differ : Differs g f built office d → DifferAt t u d
  differ (inl other) = absurd (other.1 second.office.schema)
  differ (inr tells) = differ_in tells.1.table tells.1.differs
