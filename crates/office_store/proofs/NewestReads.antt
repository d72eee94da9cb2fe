-- What the read of the newest revisions of a profile finds.
use Rattle.std.proofs.Common.{inl, inr, ◌≡◌, ◌≢◌, ◌<◌, ℕ, zero, suc, ℤ, pos, List, [], ◌∷◌, codes, map, take, Some, Result, IfOk, Bool, true, Ordering, Less, Equal, refl, sym, ap, subst, ◌∙◌, arith, true≢false}
use Rattle.std.specs.Prelude.{◌&&◌, nat_lt, filter}
use Rattle.std.specs.List.{list_all}
use Rattle.std.specs.Ordering.{nat_cmp, int_cmp, is_lt}
use Rattle.std.proofs.lemmas.Bool.{lt-ltb, ltb-true}
use Rattle.std.proofs.lemmas.Bool.Decides.{nat_tests}
use Rattle.std.proofs.lemmas.List.{take-map}
use Rattle.std.proofs.lemmas.List.Sorted.{IsPermutation-sym}
use Rattle.sqlite.specs.declared.types.Value.TheVariants.{Int}
use Rattle.sqlite_sql.specs.declared.ops.BinaryOp.TheVariants.{Compare}
use Rattle.sqlite_sql.specs.declared.ops.CompareOp.TheVariants.{Lt}
use Rattle.sqlite.specs.Ops.{binary, is_true}
use Rattle.sqlite.specs.Order.{Row}
use Rattle.sqlite.specs.Term.{Term, col, op2, holds}
use Rattle.sqlite.specs.Query.{inner, end}
use Rattle.sqlite.specs.Program.{overlay}
use Rattle.sqlite.specs.Command.TheVariants.{Select}
use Rattle.sqlite.specs.Collation.TheVariants.{Binary}
use Rattle.sqlite.specs.State.{State, Shown}
use Rattle.sqlite.specs.Listing.{understood}
use Rattle.sqlite_tied.specs.Compute.{everything}
use Rattle.sqlite_value.specs.declared.keys.Key.{Key}
use Rattle.sqlite_value.specs.Order.{value_cmp}
use Rattle.sqlite_value.proofs.OrderLemmas.{value_cmp-Int, then-Equal}
use Rattle.sqlite_trees.proofs.ListLemmas.{map-map, ascending_weaker, ascending-map, all-map}
use Rattle.sqlite_rules.specs.Lists.{Has}
use Rattle.sqlite_rules.proofs.ListLemmas.{all_has, all_from, has_filtered, has_kept, has_contained, contains_had}
use Rattle.office_words.specs.declared.listed.ProfileRevision.{ProfileRevision}
use Rattle.office_words.specs.declared.name.ProfileName.{ProfileName}
use Rattle.office_words.specs.declared.row.RevisionRow.{RevisionRow}
use Rattle.office_words.specs.declared.fault.Fault.{Fault}
use Rattle.office_words.specs.Tables.{Tables, is_profile}
use Rattle.office_words.specs.Lists.{told_revision, AreNewest}
use Rattle.office_rows.specs.Entries.{row_of}
use Rattle.office_rows.proofs.Rowids.{has_mapped, mapped_has, has_permuted}
use Rattle.office_rows.proofs.Plain.{Means, from_test}
use Rattle.office_rows.proofs.Stored.{own-filter}
use Rattle.office_rows.proofs.InOrder.{order_cmp, order_cmp_total, rises, ShowsInOrder}
use Rattle.office_rows.proofs.Limited.{limited_query, whole, whole_answered, first_answered}
use Rattle.office_rows.proofs.Asked.{table_in_order}
use Rattle.office_store.specs.declared.newest.TheConstants.{NEWEST_BELOW}
use Rattle.office_store.specs.Schema.{office_schema}
use Rattle.office_store.specs.Entries.{Revision, revision_row, revision_key, IsRevision}
use Rattle.office_store.specs.Keys.{revision_params}
use Rattle.office_store.specs.Lists.{told_row, IsToldForm, most_read}
use Rattle.office_store.specs.Shown.{Shows}
use Rattle.office_store.proofs.Columns.{both_true, column_is, text_is, three_are}
use Rattle.office_store.proofs.Profiles.{same_profile, profiles_decide, revisions_decide}
use Rattle.office_store.proofs.RevisionReads.{is_at, stands, found_at}
use Rattle.office_store.proofs.ListReads.{list_read, HaveOwn, own_permuted, all_pairs, ascending_where}
use Rattle.office_store.proofs.RowsOf.{AreRowsOf}

abbrev shown_columns : List Term
shown_columns = col 1 3 ∷ col 1 5 ∷ col 1 7 ∷ col 1 4 ∷ []

-- the table's row is of the profile, and has a number below the third parameter
abbrev below_it : List Term
below_it = column_is 1 0 ∷ column_is 2 1 ∷ op2 (Compare Lt Binary) (col 1 3) (col 0 2) ∷ []

abbrev falling : List (Term × Key)
falling = (col 1 3, record { collation = Binary; descending = true }) ∷ []

abbrev names : List (List ℕ)
names = codes "number" ∷ codes "state" ∷ codes "digest" ∷ codes "author" ∷ []

newest_means : Means office_schema NEWEST_BELOW.now (Select (record { lets = []; body = limited_query shown_columns below_it (inner 4 end) falling most_read }) names)
unfolding understood everything
newest_means = record { is = refl; plain = (refl, refl); unlisted = refl }

abbrev key : Revision → Row
key e = Int (pos e.1.number) ∷ []

abbrev told : Revision → ProfileRevision
told e = told_revision e.1

abbrev shown : Revision → Row
shown e = told_row (told e)

abbrev row_in : Revision → RevisionRow
row_in e = e.1

abbrev passes : ProfileName → ℕ → Revision → Bool
passes p below e = is_profile p e.0 && nat_lt e.1.number below

-- ---- the tests of the text

less_number : (a b : ℕ) → is_lt (int_cmp (pos a) (pos b)) ≡ nat_lt a b
less_number a b = grind (arith, nat_tests)

number_below : (a b : ℕ) → is_true (binary (Compare Lt Binary) (Int (pos a)) (Int (pos b))) ≡ nat_lt a b
unfolding binary
number_below a b = from_test _ ∙ ap is_lt (value_cmp-Int (pos a) (pos b)) ∙ less_number a b

tested : (p : ProfileName) (below : ℕ) (k : ℤ × Revision) → list_all (holds (revision_params p below ∷ row_of revision_row k ∷ [])) below_it ≡ passes p below k.1
tested p below k = three_are _ _ _ _ _ _ (text_is k.1.0.team p.team) (text_is k.1.0.profile p.profile) (number_below k.1.1.number below)

-- ---- the order

number_order : (m n : ℕ) → int_cmp (pos m) (pos n) ≡ nat_cmp m n
number_order m n = grind (arith, nat_tests)

abbrev cmp : Revision → Revision → Ordering
cmp = order_cmp key shown falling

order_is : (a b : Revision) → cmp a b ≡ nat_cmp b.1.number a.1.number
order_is a b = then-Equal (value_cmp (Int (pos b.1.number)) (Int (pos a.1.number))) ∙ value_cmp-Int (pos b.1.number) (pos a.1.number) ∙ number_order b.1.number a.1.number

same_number : (m n : ℕ) → nat_cmp m n ≡ Equal → n ≡ m
same_number m n tie = grind (arith, nat_tests)

less_is_below : (m n : ℕ) → nat_cmp m n ≡ Less → m < n
less_is_below m n less = grind (arith, nat_tests)

tied_keys : (p : ProfileName) (below : ℕ) (a b : Revision) → passes p below a ≡ true → passes p below b ≡ true → cmp a b ≡ Equal → revision_key a ≡ revision_key b
tied_keys p below a b of_a of_b tie =
    let number = same_number b.1.number a.1.number (sym (order_is a b) ∙ tie) in
    let profile = sym (same_profile p a.0 (both_true (is_profile p a.0) (nat_lt a.1.number below) of_a).0) ∙ same_profile p b.0 (both_true (is_profile p b.0) (nat_lt b.1.number below) of_b).0 in
    λ i. (profile i, number i)

own_apart : (p : ProfileName) (below : ℕ) (a b : Revision) → passes p below a ≡ true → passes p below b ≡ true → HaveOwn is_at a b → cmp a b ≢ Equal
own_apart p below a b of_a of_b own tie =
    let k = revision_key a in
    true≢false (sym ((revisions_decide k (revision_key b)).1 (tied_keys p below a b of_a of_b tie)) ∙ own k ((revisions_decide k k).1 refl))

-- ---- the first of a list

has_taken : {X : Type 0} (n : ℕ) (xs : List X) (x : X) → Has (take n xs) x → Has xs x
has_taken zero xs x h = absurd h
has_taken (suc n) [] x h = absurd h
has_taken (suc n) (y ∷ ys) x (inl is) = inl is
has_taken (suc n) (y ∷ ys) x (inr more) = inr (has_taken n ys x more)

module _ (old new : State) (t : Tables) (shows : Shows old t) where
  abbrev entries : List Revision
  entries = shows.office.revisions.entries

  newest_rows : (p : ProfileName) (below : ℕ) (all rows : List Row) → ShowsInOrder key shown falling (filter (passes p below) entries) all → rows ≡ take most_read all → AreRowsOf told_row IsToldForm (AreNewest t p below most_read) rows
  newest_rows p below all rows it first =
      let back = IsPermutation-sym (filter (passes p below) entries) it.from it.same in
      let among = λ (e : Revision) (h : Has it.from e). has_filtered (passes p below) entries e (has_permuted it.from (filter (passes p below) entries) e back h) in
      let all_of = all_from (λ e. passes p below e ≡ true) it.from (λ e h. (among e h).1) in
      let own = own_permuted is_at (filter (passes p below) entries) it.from it.same (own-filter is_at (passes p below) entries shows.office.revisions.own_keys) in
      let apart = ascending_where (λ e. passes p below e ≡ true) (HaveOwn is_at) (λ a b. cmp a b ≢ Equal) (own_apart p below) it.from all_of own in
      let rising = rises cmp (order_cmp_total key shown falling) it.from it.sorted apart in
      record {
        values = map told (take most_read it.from);
        rows_are = first ∙ ap (take most_read) it.rows_are ∙ take-map shown most_read it.from ∙ sym (map-map told_row told (take most_read it.from));
        these = record {
          rows = map row_in it.from;
          below_it = record {
            falling = all_pairs (λ (a b : RevisionRow). b.number < a.number) (map row_in it.from)
                (ascending-map (λ (a b : RevisionRow). b.number < a.number) row_in it.from
                (ascending_weaker (λ a b. cmp a b ≡ Less) (λ a b. b.1.number < a.1.number) (λ a b less. less_is_below b.1.number a.1.number (sym (order_is a b) ∙ less)) it.from rising));
            each = λ r there.
                let e = has_mapped row_in it.from r (has_contained (map row_in it.from) r there) in
                let kept = among e.0 e.1 in
                let both = both_true (is_profile p e.0.0) (nat_lt e.0.1.number below) kept.1 in
                subst (λ (x : RevisionRow). (t.revisions p x.number ≡ Some x) × (x.number < below)) (sym e.2)
                (subst (λ q. t.revisions q e.0.1.number ≡ Some e.0.1) (sym (same_profile p e.0.0 both.0)) (found_at old new t shows e.0 kept.0), ltb-true e.0.1.number below both.1);
            all = λ r is low.
                let s = stands old new t shows p r.number r is in
                let profile = (profiles_decide p s.entry.0).1 (ap (λ (k : ProfileName × ℕ). k.0) s.key) in
                let number = subst (λ m. nat_lt m below ≡ true) (ap (λ (k : ProfileName × ℕ). k.1) s.key) (lt-ltb r.number below low) in
                let there = has_permuted (filter (passes p below) entries) it.from s.entry it.same (has_kept (passes p below) entries s.entry s.has (λ i. profile i && number i)) in
                contains_had (map row_in it.from) r (subst (Has (map row_in it.from)) (sym s.is) (mapped_has row_in it.from s.entry there));
          };
          newest = sym (map-map told_revision row_in (take most_read it.from)) ∙ ap (map told_revision) (sym (take-map row_in most_read it.from));
        };
        formed = all-map IsToldForm told (take most_read it.from)
            (all_from (λ e. IsToldForm (told e)) (take most_read it.from)
            (λ e h.
            let formed = all_has IsRevision entries e shows.office.revisions.formed (among e (has_taken most_read it.from e h)).0 in
            record { revision = formed.number; digest = formed.digest; by = formed.author }));
      }

  pub reads_newest : (p : ProfileName) (below : ℕ) (r : Result (List Row) Fault) → IfOk r (λ rows. Shown NEWEST_BELOW.now (revision_params p below) old new rows)
      → IfOk r (AreRowsOf told_row IsToldForm (AreNewest t p below most_read))
  reads_newest p below =
      let o = shows.office in
      list_read _ NEWEST_BELOW.now (revision_params p below) names newest_means old new t shows (λ rows. rows) (AreRowsOf told_row IsToldForm (AreNewest t p below most_read))
      (λ rows a. newest_rows p below (whole shown_columns below_it (inner 4 end) falling most_read (overlay old.now.trees []) (revision_params p below) rows a) rows
      (table_in_order revision_row key shown (passes p below) shown_columns below_it falling (revision_params p below) (tested p below) (λ k. refl) (λ k. refl) _ 4 _ o.revisions.entries o.revisions.kept
      (whole_answered shown_columns below_it (inner 4 end) falling most_read (overlay old.now.trees []) (revision_params p below) rows a))
      (first_answered shown_columns below_it (inner 4 end) falling most_read (overlay old.now.trees []) (revision_params p below) rows a))
