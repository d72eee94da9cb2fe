-- A database that has the rows of an office in each table is that office.
use Rattle.std.proofs.Common.{inl, inr, ◌≡◌, ℕ, ◌≤◌, ◌+◌, ℤ, pos, List, [], ◌∷◌, map, length, Bool, true, false, Option, refl, ap, subst, ◌∙◌, arith}
use Rattle.std.specs.Prelude.{◌&&◌, drop, if◌then◌else◌}
use Rattle.std.specs.List.{AllByRecursion}
use Rattle.std.specs.List.Sorted.{IsPermutation}
use Rattle.std.proofs.lemmas.List.Sorted.{IsPermutation-sym, IsPermutation-trans, length_permutation}
use Rattle.sqlite.specs.declared.types.Value.{Value}
use Rattle.sqlite.specs.declared.types.Value.TheVariants.{Null, Int, Real, Text, Blob}
use Rattle.sqlite.specs.Held.{state}
use Rattle.sqlite.specs.Store.{Ghosts}
use Rattle.sqlite.specs.Program.{overlay}
use Rattle.sqlite.specs.Effect.{Database, IsDatabase}
use Rattle.sqlite.specs.Order.{Row}
use Rattle.sqlite.specs.Table.{Table as TableOf}
use Rattle.sqlite.specs.Term.{col, eval_all}
use Rattle.sqlite_catalog.specs.Listing.{IsSound}
use Rattle.sqlite_schema.specs.declared.schema.Column.{Column}
use Rattle.sqlite_schema.specs.declared.schema.Constraint.TheVariants.{Datatype}
use Rattle.sqlite_schema.specs.Names.{is_key}
use Rattle.sqlite_schema.specs.Rules.{are_typed, passes, suits}
use Rattle.sqlite_sql.specs.Ops.{is_null}
use Rattle.sqlite_trees.specs.Tree.{Trees, rowid}
use Rattle.office_words.specs.declared.row.UserRow.{UserRow}
use Rattle.office_words.specs.declared.name.ProfileName.{ProfileName}
use Rattle.office_words.specs.Tables.{Tables}
use Rattle.office_rows.specs.Entries.{Keeps, row_of}
use Rattle.office_rows.proofs.Asked.{shown_answer}
use Rattle.office_rows.proofs.Permuted.{permuted_map}
use Rattle.office_rows.proofs.Rowids.{has_permuted}
use Rattle.office_store.specs.Schema.{office_schema, office_table, users_table, revisions_table, votes_table, baselines_table, holds_table}
use Rattle.office_store.specs.Entries.{Revision, VoteEntry, BaselineEntry, user_row, revision_row, vote_row, baseline_row, hold_row}
use Rattle.office_store.specs.Shown.{IsOffice, office_row}
use Rattle.journal_faults.specs.declared.table.Table.{Table}
use Rattle.journal_faults.specs.declared.table.Table.TheVariants as table
use Rattle.journal_verification.specs.Same.{IsAnsweredBy, HaveSameTables}
use Rattle.journal_verification.specs.Texts.{rows_text, rowids_text}
use Rattle.journal_verification.proofs.Again.{shows_all, are_ints, are_apart, kept_again}
use Rattle.journal_verification.proofs.Queries.{tree_of, columns_of, order_of, names_of, rowid_names, rows_query, rowids_query, by_rowid, rows_mean, rowids_mean}

-- ---- what is shown of a row

abbrev pub shown : Table → Row → Row
shown t r = eval_all (columns_of t) ([] ∷ r ∷ [])

first_of : (a b : Bool) → (a && b) ≡ true → a ≡ true
first_of true b e = refl
first_of false b e = absurd cc

second_of : (a b : Bool) → (a && b) ≡ true → b ≡ true
second_of true b e = e
second_of false b e = absurd cc

-- a row has no more columns than its table
typed_short : (key : Option ℕ) (at : ℕ) (columns : List Column) (values : Row) → are_typed key at columns values ≡ true → length values ≤ length columns
typed_short key at [] [] e = omega arith
typed_short key at [] (v ∷ values) e = absurd cc
typed_short key at (c ∷ columns) [] e = omega arith
typed_short key at (c ∷ columns) (v ∷ values) e =
    let more = typed_short key (at + 1) columns values (second_of (if is_key key at then is_null v else suits c v) (are_typed key (at + 1) columns values) e) in
    omega (arith, more)

abbrev Fits : TableOf → Row → Type 0
Fits t row = passes Datatype office_schema (λ _. []) t row ≡ true

short : (t : TableOf) (row : Row) → Fits t row → length (drop 1 row) ≤ length t.columns
short t row fits = typed_short t.key 0 t.columns (drop 1 row) (first_of (are_typed t.key 0 t.columns (drop 1 row)) _ fits)

whole_user : (row : Row) (id : ℤ) (x : UserRow) → Fits (users_table 1) row → rowid row ≡ Int id → shown table.Users row ≡ user_row x → row ≡ row_of user_row (id, x)
whole_user [] id x fits is e = absurd cc
whole_user (k ∷ []) id x fits is e = absurd cc
whole_user (k ∷ a ∷ []) id x fits is e = absurd cc
whole_user (k ∷ a ∷ b ∷ []) id x fits is e = absurd cc
whole_user (k ∷ a ∷ b ∷ c ∷ []) id x fits is e = absurd cc
whole_user (k ∷ a ∷ b ∷ c ∷ d ∷ []) id x fits is e = λ i. is i ∷ e i
whole_user (k ∷ a ∷ b ∷ c ∷ d ∷ v ∷ more) id x fits is e = absurd (omega (arith, short (users_table 1) (k ∷ a ∷ b ∷ c ∷ d ∷ v ∷ more) fits))

whole_revision : (row : Row) (id : ℤ) (x : Revision) → Fits (revisions_table 4) row → rowid row ≡ Int id → shown table.Revisions row ≡ revision_row x → row ≡ row_of revision_row (id, x)
whole_revision [] id x fits is e = absurd cc
whole_revision (k ∷ []) id x fits is e = absurd cc
whole_revision (k ∷ a ∷ []) id x fits is e = absurd cc
whole_revision (k ∷ a ∷ b ∷ []) id x fits is e = absurd cc
whole_revision (k ∷ a ∷ b ∷ c ∷ []) id x fits is e = absurd cc
whole_revision (k ∷ a ∷ b ∷ c ∷ d ∷ []) id x fits is e = absurd cc
whole_revision (k ∷ a ∷ b ∷ c ∷ d ∷ f ∷ []) id x fits is e = absurd cc
whole_revision (k ∷ a ∷ b ∷ c ∷ d ∷ f ∷ g ∷ []) id x fits is e = absurd cc
whole_revision (k ∷ a ∷ b ∷ c ∷ d ∷ f ∷ g ∷ h ∷ []) id x fits is e = λ i. is i ∷ e i
whole_revision (k ∷ a ∷ b ∷ c ∷ d ∷ f ∷ g ∷ h ∷ v ∷ more) id x fits is e = absurd (omega (arith, short (revisions_table 4) (k ∷ a ∷ b ∷ c ∷ d ∷ f ∷ g ∷ h ∷ v ∷ more) fits))

whole_vote : (row : Row) (id : ℤ) (x : VoteEntry) → Fits (votes_table 6) row → rowid row ≡ Int id → shown table.Votes row ≡ vote_row x → row ≡ row_of vote_row (id, x)
whole_vote [] id x fits is e = absurd cc
whole_vote (k ∷ []) id x fits is e = absurd cc
whole_vote (k ∷ a ∷ []) id x fits is e = absurd cc
whole_vote (k ∷ a ∷ b ∷ []) id x fits is e = absurd cc
whole_vote (k ∷ a ∷ b ∷ c ∷ []) id x fits is e = absurd cc
whole_vote (k ∷ a ∷ b ∷ c ∷ d ∷ []) id x fits is e = absurd cc
whole_vote (k ∷ a ∷ b ∷ c ∷ d ∷ f ∷ []) id x fits is e = absurd cc
whole_vote (k ∷ a ∷ b ∷ c ∷ d ∷ f ∷ g ∷ []) id x fits is e = λ i. is i ∷ e i
whole_vote (k ∷ a ∷ b ∷ c ∷ d ∷ f ∷ g ∷ v ∷ more) id x fits is e = absurd (omega (arith, short (votes_table 6) (k ∷ a ∷ b ∷ c ∷ d ∷ f ∷ g ∷ v ∷ more) fits))

whole_baseline : (row : Row) (id : ℤ) (x : BaselineEntry) → Fits (baselines_table 8) row → rowid row ≡ Int id → shown table.Baselines row ≡ baseline_row x → row ≡ row_of baseline_row (id, x)
whole_baseline [] id x fits is e = absurd cc
whole_baseline (k ∷ []) id x fits is e = absurd cc
whole_baseline (k ∷ a ∷ []) id x fits is e = absurd cc
whole_baseline (k ∷ a ∷ b ∷ []) id x fits is e = absurd cc
whole_baseline (k ∷ a ∷ b ∷ c ∷ []) id x fits is e = λ i. is i ∷ e i
whole_baseline (k ∷ a ∷ b ∷ c ∷ v ∷ more) id x fits is e = absurd (omega (arith, short (baselines_table 8) (k ∷ a ∷ b ∷ c ∷ v ∷ more) fits))

whole_hold : (row : Row) (id : ℤ) (x : ProfileName) → Fits (holds_table 10) row → rowid row ≡ Int id → shown table.Holds row ≡ hold_row x → row ≡ row_of hold_row (id, x)
whole_hold [] id x fits is e = absurd cc
whole_hold (k ∷ []) id x fits is e = absurd cc
whole_hold (k ∷ a ∷ []) id x fits is e = absurd cc
whole_hold (k ∷ a ∷ b ∷ []) id x fits is e = λ i. is i ∷ e i
whole_hold (k ∷ a ∷ b ∷ v ∷ more) id x fits is e = absurd (omega (arith, short (holds_table 10) (k ∷ a ∷ b ∷ v ∷ more) fits))

null_of : (v : Value) → is_null v ≡ true → v ≡ Null
null_of Null e = refl
null_of (Int n) e = absurd cc
null_of (Real x) e = absurd cc
null_of (Text t) e = absurd cc
null_of (Blob b) e = absurd cc

abbrev pub office_columns : ℕ → Row
office_columns listed = Int (pos 1) ∷ Int (pos 2) ∷ Int (pos listed) ∷ []

whole_office : (row : Row) (listed : ℕ) → Fits (office_table 0) row → shown table.Office row ≡ office_columns listed → row ≡ office_row listed
whole_office [] listed fits e = absurd cc
whole_office (k ∷ []) listed fits e = absurd cc
whole_office (k ∷ a ∷ []) listed fits e = absurd cc
whole_office (k ∷ a ∷ b ∷ []) listed fits e = absurd cc
whole_office (k ∷ a ∷ b ∷ c ∷ []) listed fits e =
    let key : k ≡ Int (pos 1) = cc in
    let schema : b ≡ Int (pos 2) = cc in
    let caps : c ≡ Int (pos listed) = cc in
    let none = null_of a (first_of (is_null a) _ (first_of _ true fits)) in
    λ i. key i ∷ none i ∷ schema i ∷ caps i ∷ []
whole_office (k ∷ a ∷ b ∷ c ∷ v ∷ more) listed fits e = absurd (omega (arith, short (office_table 0) (k ∷ a ∷ b ∷ c ∷ v ∷ more) fits))

-- ---- the tables

pub bare : (t : Table) (db : Trees) → overlay db [] (tree_of t) ≡ db (tree_of t)
bare table.Office db = refl
bare table.Users db = refl
bare table.Revisions db = refl
bare table.Votes db = refl
bare table.Baselines db = refl
bare table.Holds db = refl

module _ {S : Type 0} (g : Ghosts S) (db : Database) (has : db.schema ≡ office_schema) (t : Table) (rows : List Row) where
  pub rows_shown : IsAnsweredBy g (rows_text t) db rows → IsPermutation (map (shown t) (db.trees (tree_of t))) rows
  rows_shown it =
      let trees = (state g it.old).now.trees in
      let a = shown_answer (rows_query t) office_schema (rows_text t) [] (names_of t) (rows_mean t) (state g it.old) (state g it.new) (ap (λ (d : Database). d.schema) it.now ∙ has) rows it.shown in
      subst (λ (d : Database). IsPermutation (map (shown t) (d.trees (tree_of t))) rows) it.now
      (subst (λ l. IsPermutation (map (shown t) l) rows) (bare t trees) (shows_all (columns_of t) (order_of t) (overlay trees []) (tree_of t) rows a))

  rowids_shown : IsAnsweredBy g (rowids_text t) db rows → IsPermutation (map (λ (r : Row). rowid r ∷ []) (db.trees (tree_of t))) rows
  rowids_shown it =
      let trees = (state g it.old).now.trees in
      let a = shown_answer (rowids_query t) office_schema (rowids_text t) [] (rowid_names t) (rowids_mean t) (state g it.old) (state g it.new) (ap (λ (d : Database). d.schema) it.now ∙ has) rows it.shown in
      subst (λ (d : Database). IsPermutation (map (λ (r : Row). rowid r ∷ []) (d.trees (tree_of t))) rows) it.now
      (subst (λ l. IsPermutation (map (λ (r : Row). rowid r ∷ []) l) rows) (bare t trees) (shows_all (col 1 0 ∷ []) by_rowid (overlay trees []) (tree_of t) rows a))

pub one_permuted : {X : Type 0} (x : X) (xs : List X) → IsPermutation (x ∷ []) xs → xs ≡ x ∷ []
one_permuted x [] same = absurd (has_permuted (x ∷ []) [] x same (inl refl))
one_permuted x (y ∷ []) same = elim (has_permuted (y ∷ []) (x ∷ []) y (IsPermutation-sym _ _ same) (inl refl)) [ inl is ↦ ap (λ z. z ∷ []) is | inr none ↦ absurd none ]
one_permuted x (y ∷ z ∷ more) same = absurd (omega (arith, length_permutation _ _ same))

module _ {S T : Type 0} (g : Ghosts S) (f : Ghosts T) (first second : Database) (t : Tables) (office : IsOffice first t) (has : second.schema ≡ office_schema) (sound : IsDatabase second)
    (same : HaveSameTables g f first second) where
  typed : AllByRecursion (λ (x : TableOf). AllByRecursion (Fits x) (second.trees x.tree)) office_schema.tables
  typed = (subst (λ s. IsSound s second.trees) has sound).obeys.rules Datatype

  again : {X : Type 0} (x : Table) (of : TableOf) (encode : X → Row)
      → ((row : Row) (id : ℤ) (e : X) → Fits of row → rowid row ≡ Int id → shown x row ≡ encode e → row ≡ row_of encode (id, e)) → ((k : ℤ × X) → shown x (row_of encode k) ≡ encode k.1)
      → (entries : List X) → Keeps encode (first.trees (tree_of x)) entries → AllByRecursion (Fits of) (second.trees (tree_of x)) → Keeps encode (second.trees (tree_of x)) entries
  again x of encode whole showed entries keeps fits =
      let it = same x in
      let ids = rowids_shown f second has x it.rowids.rowids it.rowids.answered in
      kept_again encode (shown x) (Fits of) whole showed (first.trees (tree_of x)) (second.trees (tree_of x)) it.rows entries keeps (rows_shown g first office.schema x it.rows it.in_first)
      (rows_shown f second has x it.rows it.in_second) fits (are_ints _ it.rowids.rowids ids it.rowids.rising) (are_apart _ it.rowids.rowids ids it.rowids.rising)

  row_again : second.trees 0 ≡ office_row t.listed ∷ []
  row_again =
      let it = same table.Office in
      let before = subst (λ l. IsPermutation (map (shown table.Office) l) it.rows) office.office (rows_shown g first office.schema table.Office it.rows it.in_first) in
      let after = rows_shown f second has table.Office it.rows it.in_second in
      let from = permuted_map office_columns (t.listed ∷ []) (map (shown table.Office) (second.trees 0)) (IsPermutation-trans _ _ _ before (IsPermutation-sym _ _ after)) in
      one (second.trees 0) typed.0 (from.is ∙ ap (map office_columns) (one_permuted t.listed from.from from.same))
    where
      one : (rows : List Row) → AllByRecursion (Fits (office_table 0)) rows → map (shown table.Office) rows ≡ office_columns t.listed ∷ [] → rows ≡ office_row t.listed ∷ []
      one [] fits e = absurd cc
      one (row ∷ []) fits e = let only : shown table.Office row ≡ office_columns t.listed = cc in ap (λ r. r ∷ []) (whole_office row t.listed fits.0 only)
      one (row ∷ r ∷ rows) fits e = absurd cc

  pub office_again : IsOffice second t
  office_again = record {
    schema = has;
    sound = sound;
    office = row_again;
    listed = office.listed;
    users = record {
      entries = office.users.entries;
      kept = again table.Users (users_table 1) user_row whole_user (λ k. refl) office.users.entries office.users.kept typed.1.0;
      own_keys = office.users.own_keys;
      formed = office.users.formed;
    };
    users_are = office.users_are;
    revisions = record {
      entries = office.revisions.entries;
      kept = again table.Revisions (revisions_table 4) revision_row whole_revision (λ k. refl) office.revisions.entries office.revisions.kept typed.1.1.0;
      own_keys = office.revisions.own_keys;
      formed = office.revisions.formed;
    };
    revisions_are = office.revisions_are;
    votes = record {
      entries = office.votes.entries;
      kept = again table.Votes (votes_table 6) vote_row whole_vote (λ k. refl) office.votes.entries office.votes.kept typed.1.1.1.0;
      own_keys = office.votes.own_keys;
      formed = office.votes.formed;
    };
    votes_are = office.votes_are;
    baselines = record {
      entries = office.baselines.entries;
      kept = again table.Baselines (baselines_table 8) baseline_row whole_baseline (λ k. refl) office.baselines.entries office.baselines.kept typed.1.1.1.1.0;
      own_keys = office.baselines.own_keys;
      formed = office.baselines.formed;
    };
    baselines_are = office.baselines_are;
    holds = record {
      entries = office.holds.entries;
      kept = again table.Holds (holds_table 10) hold_row whole_hold (λ k. refl) office.holds.entries office.holds.kept typed.1.1.1.1.1.0;
      own_keys = office.holds.own_keys;
      formed = office.holds.formed;
    };
    holds_are = office.holds_are;
  }
