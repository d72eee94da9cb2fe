-- What the reads of authors find.
use Rattle.std.proofs.Common.{◌≡◌, ◌≢◌, ℕ, ℤ, List, [], ◌∷◌, codes, map, Some, Result, Option, IfOk, Bool, true, Less, Equal, refl, sym, ap, subst, ◌∙◌}
use Rattle.std.specs.Prelude.{◌&&◌, ◌↔◌, bytes_eq, is_some, filter}
use Rattle.std.specs.List.{list_all}
use Rattle.std.proofs.lemmas.Slice.Eq.{bytes_eq-Decides}
use Rattle.sqlite.specs.Order.{Row}
use Rattle.sqlite.specs.Term.{Term, col, holds}
use Rattle.sqlite.specs.Query.{inner, end}
use Rattle.sqlite.specs.Command.TheVariants.{Select}
use Rattle.sqlite.specs.Collation.{Collation}
use Rattle.sqlite.specs.Collation.TheVariants.{Binary}
use Rattle.sqlite.specs.State.{State, Shown}
use Rattle.sqlite.specs.Listing.{understood}
use Rattle.sqlite_tied.specs.Compute.{everything}
use Rattle.sqlite_value.specs.declared.keys.Key.{Key}
use Rattle.sqlite_value.specs.Keys.{ascending, collated_cmp}
use Rattle.sqlite_trees.proofs.ListLemmas.{map-map, ascending_weaker, ascending-map, all-map, all_weaker}
use Rattle.sqlite_rules.specs.Lists.{Has}
use Rattle.sqlite_rules.proofs.ListLemmas.{all_has, has_filtered, has_kept, has_contained, contains_had}
use Rattle.office_words.specs.Words.{is_word}
use Rattle.office_words.specs.declared.name.ProfileName.{ProfileName}
use Rattle.office_words.specs.declared.row.RevisionRow.{RevisionRow}
use Rattle.office_words.specs.declared.fault.Fault.{Fault}
use Rattle.office_words.specs.Tables.{Tables, is_profile}
use Rattle.office_words.specs.Lists.{name_cmp, IsAuthor, AreAuthors}
use Rattle.office_rows.specs.Entries.{row_of}
use Rattle.office_rows.specs.Faults.{FindsRow}
use Rattle.office_rows.proofs.Rowids.{has_mapped, mapped_has}
use Rattle.office_rows.proofs.Plain.{plain_query, Means}
use Rattle.office_rows.proofs.Finding.{finds_some}
use Rattle.office_rows.proofs.InOrder.{order_cmp, order_cmp_total, rises}
use Rattle.office_rows.proofs.Distinct.{distinct_query, ShowsEachOnce}
use Rattle.office_rows.proofs.Asked.{table_each_once}
use Rattle.office_store.specs.declared.author.TheConstants.{REVISION_BY, AUTHORS_OF}
use Rattle.office_store.specs.Schema.{office_schema}
use Rattle.office_store.specs.Entries.{Revision, revision_row, IsRevision}
use Rattle.office_store.specs.Lists.{name_row, IsWord}
use Rattle.office_store.specs.Shown.{Shows}
use Rattle.office_store.proofs.Columns.{both_true, column_is, text_is, three_are}
use Rattle.office_store.specs.Keys.{profile_params, author_params}
use Rattle.office_store.proofs.Profiles.{at_profile, profile_tested, same_profile, profiles_decide}
use Rattle.office_store.proofs.RevisionReads.{stands, found_at}
use Rattle.office_store.proofs.ListReads.{list_read, text_order, same_name, all_pairs}
use Rattle.office_store.proofs.RowsOf.{AreRowsOf, any_among}

-- ---- one revision by a name

abbrev by_author : List Term
by_author = column_is 1 0 ∷ column_is 2 1 ∷ column_is 4 2 ∷ []

by_means : Means office_schema REVISION_BY.now (Select (record { lets = []; body = plain_query (col 1 4 ∷ []) by_author 4 }) (codes "author" ∷ []))
unfolding understood everything
by_means = record { is = refl; plain = (refl, refl); unlisted = refl }

abbrev author_row : Revision → Row
author_row e = name_row e.1.author

abbrev is_by : ProfileName → List ℕ → Revision → Bool
is_by p name e = (is_profile p e.0) && bytes_eq name e.1.author

by_tested : (p : ProfileName) (name : List ℕ) (k : ℤ × Revision) → list_all (holds (author_params p name ∷ row_of revision_row k ∷ [])) by_author ≡ is_by p name k.1
by_tested p name k = three_are _ _ _ _ _ _ (text_is k.1.0.team p.team) (text_is k.1.0.profile p.profile) (text_is k.1.1.author name)

-- ---- the authors

abbrev author_column : List (Term × Key)
author_column = (col 1 4, ascending Binary) ∷ []

abbrev byte_order : List Collation
byte_order = Binary ∷ []

authors_mean : Means office_schema AUTHORS_OF.now (Select (record { lets = []; body = distinct_query (col 1 4 ∷ []) at_profile (inner 4 end) author_column byte_order }) (codes "author" ∷ []))
unfolding understood everything
authors_mean = record { is = refl; plain = (refl, refl); unlisted = refl }

abbrev author_of : Revision → List ℕ
author_of e = e.1.author

abbrev is_of : ProfileName → Revision → Bool
is_of p e = is_profile p e.0

module _ (old new : State) (t : Tables) (shows : Shows old t) where
  -- a revision of the profile among the entries makes its author one
  makes_author : (p : ProfileName) (e : Revision) → Has shows.office.revisions.entries e → is_profile p e.0 ≡ true → IsAuthor t p e.1.author
  makes_author p e has of = record {
    number = e.1.number;
    revision = e.1;
    there = subst (λ q. t.revisions q e.1.number ≡ Some e.1) (sym (same_profile p e.0 of)) (found_at old new t shows e has);
    author = refl;
  }

  -- an author has an entry
  entry_by : (p : ProfileName) (name : List ℕ) → IsAuthor t p name → (e : Revision) × Has shows.office.revisions.entries e × (is_profile p e.0 ≡ true) × (e.1.author ≡ name)
  entry_by p name author =
      let it = stands old new t shows p author.number author.revision author.there in (
        it.entry,
        it.has,
        (profiles_decide p it.entry.0).1 (ap (λ (k : ProfileName × ℕ). k.0) it.key),
        sym (ap (λ (r : RevisionRow). r.author) it.is) ∙ author.author,
      )

  author_list : (p : ProfileName) (rows : List Row) → ShowsEachOnce author_row author_row author_column byte_order (filter (is_of p) shows.office.revisions.entries) rows → AreRowsOf name_row IsWord (AreAuthors t p) rows
  author_list p rows it =
      let cmp = order_cmp author_row author_row author_column in
      let apart = ascending_weaker (λ a b. collated_cmp byte_order (author_row a) (author_row b) ≢ Equal) (λ a b. cmp a b ≢ Equal) (λ a b other same. other same) it.from it.apart in
      let rising = rises cmp (order_cmp_total author_row author_row author_column) it.from it.sorted apart in
      let entries = shows.office.revisions.entries in
      record {
        values = map author_of it.from;
        rows_are = it.rows_are ∙ sym (map-map name_row author_of it.from);
        these = record {
          rising = all_pairs (λ a b. name_cmp a b ≡ Less) (map author_of it.from)
              (ascending-map (λ a b. name_cmp a b ≡ Less) author_of it.from (ascending_weaker (λ a b. cmp a b ≡ Less) (λ a b. name_cmp a.1.author b.1.author ≡ Less) (λ a b less. sym (text_order a.1.author b.1.author) ∙ less) it.from rising));
          each = λ name there.
              let e = has_mapped author_of it.from name (has_contained _ name there) in
              let kept = has_filtered (is_of p) entries e.0 (all_has (Has (filter (is_of p) entries)) it.from e.0 it.each e.1) in
              subst (IsAuthor t p) (sym e.2) (makes_author p e.0 kept.0 kept.1);
          all = λ name author.
              let e = entry_by p name author in
              let z = it.all e.0 (has_kept (is_of p) entries e.0 e.1 e.2) in
              let same : z.0.1.author ≡ name = same_name z.0.1.author e.0.1.author (sym (text_order z.0.1.author e.0.1.author) ∙ z.2) ∙ e.3 in
              contains_had (map author_of it.from) name (subst (Has (map author_of it.from)) same (mapped_has author_of it.from z.0 z.1));
        };
        formed = all-map (λ name. is_word name ≡ true) author_of it.from
            (all_weaker (Has (filter (is_of p) entries)) (λ e. is_word e.1.author ≡ true) (λ e h. (all_has IsRevision entries e shows.office.revisions.formed (has_filtered (is_of p) entries e h).0).author) it.from it.each);
      }

  pub reads_by : (p : ProfileName) (name : List ℕ) (r : Result (Option Row) Fault) → FindsRow REVISION_BY.now (author_params p name) old new r → IfOk r (λ row. is_some row ≡ true ↔ IsAuthor t p name)
  reads_by p name r h =
      let o = shows.office in
      let it = finds_some revision_row author_row (is_by p name) (col 1 4 ∷ []) by_author office_schema REVISION_BY.now (author_params p name) 4 (codes "author" ∷ []) by_means (by_tested p name) (λ k. refl)
      old new o.schema o.revisions.entries o.revisions.kept r h in
      any_among (is_by p name) o.revisions.entries author_row (λ found. found ≡ true ↔ IsAuthor t p name)
      (λ e has passed.
      let both = both_true (is_profile p e.0) (bytes_eq name e.1.author) passed in
      ((λ _. subst (IsAuthor t p) (sym ((bytes_eq-Decides name e.1.author).0 both.1)) (makes_author p e has both.0)), (λ author. refl)))
      (λ none. (
        (λ e. absurd cc),
        (λ author.
            let e = entry_by p name author in
            absurd (none e.0 e.1 (λ i. e.2 i && (bytes_eq-Decides name e.0.1.author).1 (sym e.3) i))),
      )) r it

  pub reads_authors : (p : ProfileName) (r : Result (List Row) Fault) → IfOk r (λ rows. Shown AUTHORS_OF.now (profile_params p) old new rows) → IfOk r (AreRowsOf name_row IsWord (AreAuthors t p))
  reads_authors p =
      let o = shows.office in
      list_read _ AUTHORS_OF.now (profile_params p) (codes "author" ∷ []) authors_mean old new t shows (λ rows. rows) (AreRowsOf name_row IsWord (AreAuthors t p))
      (λ rows a. author_list p rows (table_each_once revision_row author_row author_row (is_of p) (col 1 4 ∷ []) at_profile author_column (profile_params p) (profile_tested p) (λ k. refl) (λ k. refl) _ 4 rows o.revisions.entries o.revisions.kept byte_order a))
