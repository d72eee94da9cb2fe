-- What the read of a team's revisions finds.
use Rattle.std.proofs.Common.{◌≡◌, ◌≢◌, ℕ, ℤ, pos, List, [], ◌∷◌, codes, map, Some, Result, IfOk, Bool, true, Ordering, Less, Equal, Greater, refl, sym, ap, subst, ◌∙◌, arith, true≢false}
use Rattle.std.specs.Prelude.{bytes_eq, filter}
use Rattle.std.specs.List.{list_all}
use Rattle.std.specs.Ordering.{nat_cmp, int_cmp, ordering_then}
use Rattle.std.proofs.lemmas.Bool.Decides.{nat_tests}
use Rattle.std.proofs.lemmas.Slice.Eq.{bytes_eq-Decides}
use Rattle.std.proofs.lemmas.List.Sorted.{IsPermutation-sym}
use Rattle.sqlite.specs.declared.types.Value.TheVariants.{Null, Text, Int}
use Rattle.sqlite_sql.specs.declared.ops.BinaryOp.TheVariants.{Coalesce}
use Rattle.sqlite_sql.specs.Ops.{binary}
use Rattle.sqlite_sql.specs.Term.{eval_all}
use Rattle.sqlite.specs.Order.{Row}
use Rattle.sqlite.specs.Term.{Term, lit, col, op2, holds}
use Rattle.sqlite.specs.Query.{inner, end}
use Rattle.sqlite.specs.Command.TheVariants.{Select}
use Rattle.sqlite.specs.Collation.TheVariants.{Binary}
use Rattle.sqlite.specs.State.{State, Shown}
use Rattle.sqlite.specs.Listing.{understood}
use Rattle.sqlite_tied.specs.Compute.{everything}
use Rattle.sqlite_value.specs.declared.keys.Key.{Key}
use Rattle.sqlite_value.specs.Keys.{ascending}
use Rattle.sqlite_value.specs.Order.{value_cmp}
use Rattle.sqlite_value.proofs.OrderLemmas.{value_cmp-Int, value_cmp-Text, then-Equal}
use Rattle.sqlite_trees.proofs.ListLemmas.{map-map, ascending_weaker, ascending-map, all-map}
use Rattle.sqlite_rules.specs.Lists.{Has}
use Rattle.sqlite_rules.proofs.ListLemmas.{all_has, all_from, has_filtered, has_kept, has_contained, contains_had}
use Rattle.office_words.specs.declared.name.ProfileName.{ProfileName}
use Rattle.office_words.specs.declared.row.RevisionRow.{RevisionRow}
use Rattle.office_words.specs.declared.listed.ListedRevision.{ListedRevision}
use Rattle.office_words.specs.declared.fault.Fault.{Fault}
use Rattle.office_words.specs.Tables.{Tables}
use Rattle.office_words.specs.Lists.{listed_cmp, profile_of, IsListed, AreRevisionsOf}
use Rattle.office_rows.specs.Entries.{row_of}
use Rattle.office_rows.proofs.Rowids.{has_mapped, mapped_has, has_permuted}
use Rattle.office_rows.proofs.Plain.{Means}
use Rattle.office_rows.proofs.Stored.{own-filter}
use Rattle.office_rows.proofs.InOrder.{ordered_query, order_cmp, order_cmp_total, rises, ShowsInOrder}
use Rattle.office_rows.proofs.Asked.{table_in_order}
use Rattle.office_store.specs.declared.listing.TheConstants.{REVISIONS_OF}
use Rattle.office_store.specs.Schema.{office_schema}
use Rattle.office_store.specs.Entries.{Revision, revision_row, revision_key, IsRevision}
use Rattle.office_store.specs.Lists.{listed_row, IsListedForm}
use Rattle.office_store.specs.Shown.{Shows}
use Rattle.office_store.proofs.Columns.{column_is, text_is, one_is}
use Rattle.office_store.proofs.Profiles.{revisions_decide}
use Rattle.office_store.proofs.RevisionReads.{is_at, stands, found_at}
use Rattle.office_store.proofs.ListReads.{list_read, HaveOwn, own_permuted, same_name, all_pairs, ascending_where}
use Rattle.office_store.proofs.RowsOf.{AreRowsOf}

abbrev shown_columns : List Term
shown_columns = col 1 2 ∷ col 1 3 ∷ col 1 5 ∷ []

abbrev of_team : List Term
of_team = column_is 1 0 ∷ []

-- what a plus makes of a column
abbrev plus : Term → Term
plus column = op2 Coalesce column (lit Null)

abbrev by_name_and_number : List (Term × Key)
by_name_and_number = (plus (col 1 2), ascending Binary) ∷ (col 1 3, ascending Binary) ∷ []

abbrev names : List (List ℕ)
names = codes "profile" ∷ codes "number" ∷ codes "state" ∷ []

listed_mean : Means office_schema REVISIONS_OF.now (Select (record { lets = []; body = ordered_query shown_columns of_team (inner 4 end) by_name_and_number }) names)
unfolding understood everything
listed_mean = record { is = refl; plain = (refl, refl); unlisted = refl }

abbrev key : Revision → Row
key e = Text e.0.profile ∷ Int (pos e.1.number) ∷ []

abbrev pub listed_of : Revision → ListedRevision
listed_of e = record { profile = e.0.profile; number = e.1.number; state = e.1.state }

abbrev shown : Revision → Row
shown e = listed_row (listed_of e)

abbrev pub is_of : List ℕ → Revision → Bool
is_of team e = bytes_eq team e.0.team

keyed : (team : List ℕ) (k : ℤ × Revision) → eval_all (map {A = Term × Key} {B = Term} (λ o. o.0) by_name_and_number) ((Text team ∷ []) ∷ row_of revision_row k ∷ []) ≡ key k.1
unfolding binary
keyed team k = refl

team_tested : (team : List ℕ) (k : ℤ × Revision) → list_all (holds ((Text team ∷ []) ∷ row_of revision_row k ∷ [])) of_team ≡ is_of team k.1
team_tested team k = one_is _ _ (text_is k.1.0.team team)

-- ---- the order

number_order : (m n : ℕ) → int_cmp (pos m) (pos n) ≡ nat_cmp m n
number_order m n = grind (arith, nat_tests)

abbrev cmp : Revision → Revision → Ordering
cmp = order_cmp key shown by_name_and_number

order_is : (a b : Revision) → cmp a b ≡ listed_cmp (listed_of a) (listed_of b)
order_is a b = λ i. ordering_then (value_cmp-Text a.0.profile b.0.profile i) ((then-Equal (value_cmp (Int (pos a.1.number)) (Int (pos b.1.number))) ∙ value_cmp-Int (pos a.1.number) (pos b.1.number) ∙ number_order a.1.number b.1.number) i)

both_tied : (o p : Ordering) → ordering_then o p ≡ Equal → (o ≡ Equal) × (p ≡ Equal)
both_tied Less p e = absurd cc
both_tied Equal p e = (refl, e)
both_tied Greater p e = absurd cc

same_number : (m n : ℕ) → nat_cmp m n ≡ Equal → m ≡ n
same_number m n tie = grind (arith, nat_tests)

tied_keys : (team : List ℕ) (a b : Revision) → is_of team a ≡ true → is_of team b ≡ true → cmp a b ≡ Equal → revision_key a ≡ revision_key b
tied_keys team a b of_a of_b tie =
    let both = both_tied _ _ (sym (order_is a b) ∙ tie) in
    let profile = same_name a.0.profile b.0.profile both.0 in
    let number = same_number a.1.number b.1.number both.1 in
    let same = sym ((bytes_eq-Decides team a.0.team).0 of_a) ∙ (bytes_eq-Decides team b.0.team).0 of_b in
    λ i. (record { team = same i; profile = profile i }, number i)

own_apart : (team : List ℕ) (a b : Revision) → is_of team a ≡ true → is_of team b ≡ true → HaveOwn is_at a b → cmp a b ≢ Equal
own_apart team a b of_a of_b own tie =
    let k = revision_key a in
    true≢false (sym ((revisions_decide k (revision_key b)).1 (tied_keys team a b of_a of_b tie)) ∙ own k ((revisions_decide k k).1 refl))

module _ (old new : State) (t : Tables) (shows : Shows old t) where
  abbrev entries : List Revision
  entries = shows.office.revisions.entries

  -- a revision of the team among the entries is listed
  pub makes_listed : (team : List ℕ) (e : Revision) → Has entries e → is_of team e ≡ true → IsListed t team (listed_of e)
  makes_listed team e has of =
      let profile : ◌≡◌ {A = ProfileName} e.0 (profile_of team e.0.profile) = λ i. record { team = sym ((bytes_eq-Decides team e.0.team).0 of) i; profile = e.0.profile } in
      record { revision = e.1; there = subst (λ q. t.revisions q e.1.number ≡ Some e.1) profile (found_at old new t shows e has); state = refl }

  -- what is listed has an entry
  pub entry_of : (team : List ℕ) (l : ListedRevision) → IsListed t team l → (e : Revision) × Has entries e × (is_of team e ≡ true) × (listed_of e ≡ l)
  entry_of team l listed =
      let it = stands old new t shows (profile_of team l.profile) l.number listed.revision listed.there in
      let profile = ap (λ (k : ProfileName × ℕ). k.0.profile) it.key in
      let number = ap (λ (k : ProfileName × ℕ). k.1) it.key in
      let state = sym (ap (λ (r : RevisionRow). r.state) it.is) ∙ listed.state in (
        it.entry,
        it.has,
        (bytes_eq-Decides team it.entry.0.team).1 (ap (λ (k : ProfileName × ℕ). k.0.team) it.key),
        λ i. record { profile = sym profile i; number = sym number i; state = state i },
      )

  listed_rows : (team : List ℕ) (rows : List Row) → ShowsInOrder key shown by_name_and_number (filter (is_of team) entries) rows → AreRowsOf listed_row IsListedForm (AreRevisionsOf t team) rows
  listed_rows team rows it =
      let back = IsPermutation-sym (filter (is_of team) entries) it.from it.same in
      let all_of = all_from (λ e. is_of team e ≡ true) it.from (λ e h. (has_filtered (is_of team) entries e (has_permuted it.from (filter (is_of team) entries) e back h)).1) in
      let own = own_permuted is_at (filter (is_of team) entries) it.from it.same (own-filter is_at (is_of team) entries shows.office.revisions.own_keys) in
      let apart = ascending_where (λ e. is_of team e ≡ true) (HaveOwn is_at) (λ a b. cmp a b ≢ Equal) (own_apart team) it.from all_of own in
      let rising = rises cmp (order_cmp_total key shown by_name_and_number) it.from it.sorted apart in
      record {
        values = map listed_of it.from;
        rows_are = it.rows_are ∙ sym (map-map listed_row listed_of it.from);
        these = record {
          rising = all_pairs (λ a b. listed_cmp a b ≡ Less) (map listed_of it.from)
              (ascending-map (λ a b. listed_cmp a b ≡ Less) listed_of it.from (ascending_weaker (λ a b. cmp a b ≡ Less) (λ a b. listed_cmp (listed_of a) (listed_of b) ≡ Less) (λ a b less. sym (order_is a b) ∙ less) it.from rising));
          each = λ l there.
              let e = has_mapped listed_of it.from l (has_contained (map listed_of it.from) l there) in
              let kept = has_filtered (is_of team) entries e.0 (has_permuted it.from (filter (is_of team) entries) e.0 back e.1) in
              subst (IsListed t team) (sym e.2) (makes_listed team e.0 kept.0 kept.1);
          all = λ l listed.
              let e = entry_of team l listed in
              let there = has_permuted (filter (is_of team) entries) it.from e.0 it.same (has_kept (is_of team) entries e.0 e.1 e.2) in
              contains_had (map listed_of it.from) l (subst (Has (map listed_of it.from)) e.3 (mapped_has listed_of it.from e.0 there));
        };
        formed = all-map IsListedForm listed_of it.from
            (all_from (λ e. IsListedForm (listed_of e)) it.from
            (λ e h.
            let formed = all_has IsRevision entries e shows.office.revisions.formed (has_filtered (is_of team) entries e (has_permuted it.from (filter (is_of team) entries) e back h)).0 in
            record { profile = formed.profile.profile; number = formed.number }));
      }

  pub reads_listed : (team : List ℕ) (r : Result (List Row) Fault) → IfOk r (λ rows. Shown REVISIONS_OF.now (Text team ∷ []) old new rows) → IfOk r (AreRowsOf listed_row IsListedForm (AreRevisionsOf t team))
  reads_listed team =
      let o = shows.office in
      list_read _ REVISIONS_OF.now (Text team ∷ []) names listed_mean old new t shows (λ rows. rows) (AreRowsOf listed_row IsListedForm (AreRevisionsOf t team))
      (λ rows a. listed_rows team rows (table_in_order revision_row key shown (is_of team) shown_columns of_team by_name_and_number (Text team ∷ []) (team_tested team) (λ k. refl) (keyed team) _ 4 rows o.revisions.entries o.revisions.kept a))
