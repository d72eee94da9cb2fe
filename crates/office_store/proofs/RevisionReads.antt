-- What the reads of revisions find.
use Rattle.std.proofs.Common.{◌≡◌, ◌<◌, ℕ, pos, map, List, [], ◌∷◌, codes, None, Some, Ok, Err, Result, Option, IfOk, Bool, true, false, refl, sym, ap, subst, ◌∙◌, arith}
use Rattle.std.specs.Prelude.{◌&&◌, ◌==◌, ◌↔◌, option_map, is_some, find}
use Rattle.std.proofs.lemmas.Bool.Decides.{nat_tests}
use Rattle.std.specs.declared.cmp.Ordering.{Ordering}
use Rattle.std.specs.declared.cmp.Ordering.TheVariants.{Less, Equal, Greater}
use Rattle.std.specs.Ordering.{is_lt, int_cmp, ordering_then}
use Rattle.sqlite_value.specs.declared.keys.Key.{Key}
use Rattle.sqlite_value.specs.Order.{value_cmp}
use Rattle.sqlite_value.proofs.OrderLemmas.{value_cmp-Int}
use Rattle.sqlite_sql.specs.Query.{key_cmp}
use Rattle.sqlite.specs.Collation.TheVariants.{Binary}
use Rattle.sqlite.specs.declared.types.Value.TheVariants.{Int}
use Rattle.sqlite.specs.Order.{Row}
use Rattle.sqlite.specs.Term.{Term, col}
use Rattle.sqlite.specs.Command.TheVariants.{Select}
use Rattle.sqlite.specs.State.{State}
use Rattle.sqlite_tied.specs.Compute.{everything}
use Rattle.sqlite.specs.Listing.{understood}
use Rattle.sqlite_rules.specs.Lists.{Has}
use Rattle.sqlite_rules.proofs.ListLemmas.{all_has, has_found}
use Rattle.office_words.specs.declared.name.ProfileName.{ProfileName}
use Rattle.office_words.specs.declared.revision.State.TheVariants.{Issued}
use Rattle.office_words.specs.declared.row.RevisionRow.{RevisionRow}
use Rattle.office_words.specs.declared.fault.Fault.{Fault}
use Rattle.office_words.specs.Tables.{Tables, is_profile}
use Rattle.office_words.specs.Reads.{IsLast, IsIssued, HasRevision}
use Rattle.office_rows.specs.Faults.{FindsRow}
use Rattle.office_rows.proofs.Plain.{plain_query, Means}
use Rattle.office_rows.proofs.Stored.{find_own}
use Rattle.office_rows.proofs.Finding.{IsFound, finds_some}
use Rattle.office_rows.proofs.Ordered.{first_query, IsFirst, IsFirstRow, finds_first}
use Rattle.office_store.specs.declared.revisions.TheConstants.{REVISION_AT, ISSUED_OF, LAST_OF, REVISION_OF}
use Rattle.office_store.specs.declared.numbers.TheConstants.{LAST_NUMBERED, ISSUED_NUMBER}
use Rattle.office_store.specs.declared.briefs.TheConstants.{ISSUED_BRIEF}
use Rattle.office_store.specs.declared.briefs.Brief.{Brief}
use Rattle.office_store.specs.declared.summaries.Summary.{Summary}
use Rattle.office_store.specs.declared.summaries.TheConstants.{STATE_AND_DIGEST}
use Rattle.office_store.specs.Briefs.{brief_of, brief_row, IsBrief, IsBriefOf}
use Rattle.office_store.specs.Schema.{office_schema}
use Rattle.office_store.specs.Entries.{Revision, same_revision, revision_key, revision_row, revision_columns, IsRevision, IsRevisionForm, state_number}
use Rattle.office_store.specs.Lists.{number_row, IsNumber, IsNumberOf}
use Rattle.office_store.specs.Numbered.{numbered_of, numbered_row, IsNumbered, IsNumberedOf}
use Rattle.office_store.specs.Shown.{Shows}
use Rattle.office_store.specs.Summaries.{summary_of, summary_row, IsSummary}
use Rattle.office_store.proofs.Kept.{map_of_map, some_shown}
use Rattle.office_store.proofs.RowsOf.{IsRowOf, row_at, row_among, any_among}
use Rattle.office_store.specs.Keys.{profile_params, revision_params}
use Rattle.office_store.proofs.Columns.{both_true}
use Rattle.office_store.proofs.Profiles.{at_profile, profile_tested, at_revision, revision_tested, in_state_of, is_in_state, state_tested, revisions_decide, profiles_decide, same_profile, same_state, numbered_as}

abbrev shown_columns : List Term
shown_columns = col 1 3 ∷ col 1 4 ∷ col 1 5 ∷ col 1 6 ∷ col 1 7 ∷ []

abbrev names : List (List ℕ)
names = codes "number" ∷ codes "author" ∷ codes "state" ∷ codes "body" ∷ codes "digest" ∷ []

revision_means : Means office_schema REVISION_AT.now (Select (record { lets = []; body = plain_query shown_columns at_revision 4 }) names)
unfolding understood everything
revision_means = record { is = refl; plain = (refl, refl); unlisted = refl }

summary_means : Means office_schema STATE_AND_DIGEST.now (Select (record { lets = []; body = plain_query (col 1 5 ∷ col 1 7 ∷ []) at_revision 4 }) (codes "state" ∷ codes "digest" ∷ []))
unfolding understood everything
summary_means = record { is = refl; plain = (refl, refl); unlisted = refl }

issued_means : Means office_schema ISSUED_OF.now (Select (record { lets = []; body = plain_query shown_columns (in_state_of Issued) 4 }) names)
unfolding understood everything
issued_means = record { is = refl; plain = (refl, refl); unlisted = refl }

abbrev greatest : List (Term × Key)
greatest = (col 1 3, record { collation = Binary; descending = true }) ∷ []

last_means : Means office_schema LAST_OF.now (Select (record { lets = []; body = first_query shown_columns at_profile 4 greatest }) names)
unfolding understood everything
last_means = record { is = refl; plain = (refl, refl); unlisted = refl }

abbrev number_column : List Term
number_column = col 1 3 ∷ []

any_means : Means office_schema REVISION_OF.now (Select (record { lets = []; body = plain_query number_column at_profile 4 }) (codes "number" ∷ []))
unfolding understood everything
any_means = record { is = refl; plain = (refl, refl); unlisted = refl }

abbrev numbered_columns : List Term
numbered_columns = col 1 3 ∷ col 1 5 ∷ []

last_numbered_means : Means office_schema LAST_NUMBERED.now (Select (record { lets = []; body = first_query numbered_columns at_profile 4 greatest }) (codes "number" ∷ codes "state" ∷ []))
unfolding understood everything
last_numbered_means = record { is = refl; plain = (refl, refl); unlisted = refl }

issued_number_means : Means office_schema ISSUED_NUMBER.now (Select (record { lets = []; body = plain_query number_column (in_state_of Issued) 4 }) (codes "number" ∷ []))
unfolding understood everything
issued_number_means = record { is = refl; plain = (refl, refl); unlisted = refl }

brief_means : Means office_schema ISSUED_BRIEF.now (Select (record { lets = []; body = plain_query (col 1 3 ∷ col 1 7 ∷ []) (in_state_of Issued) 4 }) (codes "number" ∷ codes "digest" ∷ []))
unfolding understood everything
brief_means = record { is = refl; plain = (refl, refl); unlisted = refl }

abbrev number_of : Revision → Row
number_of e = Int (pos e.1.number) ∷ []

abbrev is_of : ProfileName → Revision → Bool
is_of p e = is_profile p e.0

then_equal : (o : Ordering) → is_lt (ordering_then o Equal) ≡ is_lt o
then_equal Less = refl
then_equal Equal = refl
then_equal Greater = refl

not_less : (a b : ℕ) → is_lt (int_cmp (pos a) (pos b)) ≡ false → a < b → ⊥
not_less a b e below = grind (arith, nat_tests)

-- no number is above that of the first by falling numbers
not_above : (a b : ℕ) → is_lt (key_cmp 0 (map (λ k. k.1) greatest) (Int (pos b) ∷ []) (Int (pos a) ∷ [])) ≡ false → a < b → ⊥
not_above a b e below = not_less a b (sym (ap is_lt (value_cmp-Int (pos a) (pos b))) ∙ sym (then_equal (value_cmp (Int (pos a)) (Int (pos b)))) ∙ e) below

none_if : {X : Type 0} (o : Option X) → ((x : X) → o ≡ Some x → ⊥) → o ≡ None
none_if None h = refl
none_if (Some x) h = absurd (h x refl)

abbrev shown : Revision → Row
shown e = revision_columns e.1

abbrev summarized : Revision → Row
summarized e = summary_row (summary_of e.1)

abbrev numbered : Revision → Row
numbered e = numbered_row (numbered_of e.1)

abbrev in_brief : Revision → Row
in_brief e = brief_row (brief_of e.1)

abbrev pub is_at : ProfileName × ℕ → Revision → Bool
is_at k e = same_revision k (revision_key e)

abbrev row_of_entry : Revision → RevisionRow
row_of_entry e = e.1

module _ (old new : State) (t : Tables) (shows : Shows old t) where
  -- a revision of the tables stands in an entry of its own key
  pub record StandsFor (p : ProfileName) (n : ℕ) (r : RevisionRow) : Type 0 where
    pub entry : Revision
    pub has : Has shows.office.revisions.entries entry
    pub key : (p, n) ≡ revision_key entry
    pub is : r ≡ entry.1

  pub stands : (p : ProfileName) (n : ℕ) (r : RevisionRow) → t.revisions p n ≡ Some r → StandsFor p n r
  stands p n r at =
      let it = some_shown row_of_entry (find (is_at (p, n)) shows.office.revisions.entries) r (sym at ∙ shows.office.revisions_are p n) in
      let has = has_found (is_at (p, n)) shows.office.revisions.entries it.0 it.1 in
      record { entry = it.0; has = has.0; key = (revisions_decide (p, n) (revision_key it.0)).0 has.1; is = it.2 }

  pub found_at : (e : Revision) → Has shows.office.revisions.entries e → t.revisions e.0 e.1.number ≡ Some e.1
  found_at e has =
      shows.office.revisions_are e.0 e.1.number
      ∙ ap (option_map row_of_entry) (find_own is_at shows.office.revisions.entries shows.office.revisions.own_keys (revision_key e) e has ((revisions_decide (revision_key e) (revision_key e)).1 refl))

  pub reads_revision : (p : ProfileName) (n : ℕ) (r : Result (Option Row) Fault) → FindsRow REVISION_AT.now (revision_params p n) old new r
      → IfOk r (IsRowOf revision_columns IsRevisionForm (λ row. row ≡ t.revisions p n))
  reads_revision p n r h =
      let o = shows.office in
      let it = finds_some revision_row shown (is_at (p, n)) shown_columns at_revision office_schema REVISION_AT.now (revision_params p n) 4 names revision_means (revision_tested p n) (λ k. refl)
      old new o.schema o.revisions.entries o.revisions.kept r h in
      row_at revision_row is_at IsRevision (old.now.trees 4) o.revisions (p, n) row_of_entry revision_columns IsRevisionForm (λ row. row ≡ t.revisions p n) (λ e formed at. (e.0, formed)) (sym (o.revisions_are p n)) r it

  pub reads_summary : (p : ProfileName) (n : ℕ) (r : Result (Option Row) Fault) → FindsRow STATE_AND_DIGEST.now (revision_params p n) old new r
      → IfOk r (IsRowOf summary_row IsSummary (λ s. s ≡ option_map summary_of (t.revisions p n)))
  reads_summary p n r h =
      let o = shows.office in
      let it = finds_some revision_row summarized (is_at (p, n)) (col 1 5 ∷ col 1 7 ∷ []) at_revision office_schema STATE_AND_DIGEST.now (revision_params p n) 4 (codes "state" ∷ codes "digest" ∷ []) summary_means (revision_tested p n) (λ k. refl)
      old new o.schema o.revisions.entries o.revisions.kept r h in
      row_at revision_row is_at IsRevision (old.now.trees 4) o.revisions (p, n) (λ e. summary_of e.1) summary_row IsSummary (λ s. s ≡ option_map summary_of (t.revisions p n)) (λ e formed at. record { digest = formed.digest })
      (sym (map_of_map summary_of row_of_entry _) ∙ ap (option_map summary_of) (sym (o.revisions_are p n))) r it

  -- an entry of the profile that is issued
  issued_entry : (p : ProfileName) (e : Revision) → Has shows.office.revisions.entries e → is_in_state p Issued e ≡ true → IsIssued t p (Some e.1)
  issued_entry p e has passed =
      let both = both_true (is_profile p e.0) (state_number Issued == state_number e.1.state) passed in
      (subst (λ q. t.revisions q e.1.number ≡ Some e.1) (sym (same_profile p e.0 both.0)) (found_at e has), sym (same_state Issued e.1.state both.1))

  none_issued : (p : ProfileName) → ((e : Revision) → Has shows.office.revisions.entries e → is_in_state p Issued e ≡ true → ⊥) → IsIssued t p None
  none_issued p none = λ n r at issued.
      let it = stands p n r at in
      let profile : is_profile p it.entry.0 ≡ true = (profiles_decide p it.entry.0).1 (ap (λ (k : ProfileName × ℕ). k.0) it.key) in
      let state : (state_number Issued == state_number it.entry.1.state) ≡ true = subst (λ s. (state_number Issued == state_number s) ≡ true) (sym issued ∙ ap (λ (x : RevisionRow). x.state) it.is) refl in
      none it.entry it.has (λ i. profile i && state i)

  -- a query of the issued revision finds what is shown of it
  issued_row : {X : Type 0} (p : ProfileName) (show : RevisionRow → X) (encode : X → Row) (IsFormed : X → Type 0) (IsThis : Option X → Type 0) → ((q : ProfileName) (r : RevisionRow) → IsRevision (q, r) → IsFormed (show r))
      → ((r : RevisionRow) → IsIssued t p (Some r) → IsThis (Some (show r))) → (IsIssued t p None → IsThis None)
      → (r : Result (Option Row) Fault) → IfOk r (IsFound (is_in_state p Issued) (λ e. encode (show e.1)) shows.office.revisions.entries) → IfOk r (IsRowOf encode IsFormed IsThis)
  issued_row p show encode IsFormed IsThis formed some none =
      row_among (is_in_state p Issued) shows.office.revisions.entries (λ e. show e.1) encode IsFormed IsThis
      (λ e has passed. (formed e.0 e.1 (all_has IsRevision _ e shows.office.revisions.formed has), some e.1 (issued_entry p e has passed))) (λ h. none (none_issued p h))

  pub reads_issued : (p : ProfileName) (r : Result (Option Row) Fault) → FindsRow ISSUED_OF.now (profile_params p) old new r
      → IfOk r (IsRowOf revision_columns IsRevisionForm (IsIssued t p))
  reads_issued p r h =
      let o = shows.office in
      let it = finds_some revision_row shown (is_in_state p Issued) shown_columns (in_state_of Issued) office_schema ISSUED_OF.now (profile_params p) 4 names issued_means (state_tested p Issued) (λ k. refl)
      old new o.schema o.revisions.entries o.revisions.kept r h in
      issued_row p (λ x. x) revision_columns IsRevisionForm (IsIssued t p) (λ q x formed. (q, formed)) (λ x is. is) (λ none. none) r it

  -- of a profile's revisions, by falling numbers, the first is its last
  first_is_last : (p : ProfileName) (show : Revision → Row) (project : List Term) (e : Revision)
      → IsFirst revision_row show number_of (is_of p) project at_profile greatest (profile_params p) shows.office.revisions.entries e → IsLast t p (Some e.1)
  first_is_last p show project e first =
      let at = subst (λ q. t.revisions q e.1.number ≡ Some e.1) (sym (same_profile p e.0 first.passed)) (found_at e first.has) in
      let later = λ (n : ℕ) (above : e.1.number < n). none_if (t.revisions p n) (λ s is.
      let it = stands p n s is in
      let of : is_of p it.entry ≡ true = (profiles_decide p it.entry.0).1 (ap (λ (k : ProfileName × ℕ). k.0) it.key) in
      not_above e.1.number it.entry.1.number (first.least it.entry it.has of) (subst (λ m. e.1.number < m) (ap (λ (k : ProfileName × ℕ). k.1) it.key) above)) in
      (at, later)

  none_is_last : (p : ProfileName) → ((e : Revision) → Has shows.office.revisions.entries e → is_of p e ≡ true → ⊥) → IsLast t p None
  none_is_last p none = λ n. none_if (t.revisions p n) (λ s is.
      let e = stands p n s is in
      none e.entry e.has ((profiles_decide p e.entry.0).1 (ap (λ (k : ProfileName × ℕ). k.0) e.key)))

  -- the first row of their query, which shows this of each
  abbrev IsFirstOf : ProfileName → (Revision → Row) → List Term → Option Row → Type 0
  IsFirstOf p show project = IsFirstRow revision_row show number_of (is_of p) project at_profile greatest (profile_params p) shows.office.revisions.entries

  -- a query of the last revision finds what is shown of it
  last_row : {X : Type 0} (p : ProfileName) (show : RevisionRow → X) (encode : X → Row) (project : List Term) (IsFormed : X → Type 0) (IsThis : Option X → Type 0)
      → ((q : ProfileName) (r : RevisionRow) → IsRevision (q, r) → IsFormed (show r)) → ((r : RevisionRow) → IsLast t p (Some r) → IsThis (Some (show r))) → (IsLast t p None → IsThis None)
      → (r : Result (Option Row) Fault) → IfOk r (IsFirstOf p (λ e. encode (show e.1)) project) → IfOk r (IsRowOf encode IsFormed IsThis)
  last_row p show encode project IsFormed IsThis formed some none (Ok (Some row)) it = (
    show it.0.1,
    formed it.0.0 it.0.1 (all_has IsRevision _ it.0 shows.office.revisions.formed it.1.has),
    it.2,
    some it.0.1 (first_is_last p (λ e. encode (show e.1)) project it.0 it.1),
  )
  last_row p show encode project IsFormed IsThis formed some none (Ok None) h = none (none_is_last p h)
  last_row p show encode project IsFormed IsThis formed some none (Err f) it = it

  pub reads_last : (p : ProfileName) (r : Result (Option Row) Fault) → FindsRow LAST_OF.now (profile_params p) old new r
      → IfOk r (IsRowOf revision_columns IsRevisionForm (IsLast t p))
  reads_last p r h =
      let o = shows.office in
      let it = finds_first revision_row shown number_of (is_of p) shown_columns at_profile greatest (profile_params p) (profile_tested p) (λ k. refl) (λ k. refl)
      office_schema LAST_OF.now 4 names last_means old new o.schema o.revisions.entries o.revisions.kept r h in
      last_row p (λ x. x) revision_columns shown_columns IsRevisionForm (IsLast t p) (λ q x formed. (q, formed)) (λ x is. is) (λ none. none) r it

  -- ---- without the text

  pub reads_last_numbered : (p : ProfileName) (r : Result (Option Row) Fault) → FindsRow LAST_NUMBERED.now (profile_params p) old new r
      → IfOk r (IsRowOf numbered_row IsNumbered (IsNumberedOf (IsLast t p)))
  reads_last_numbered p r h =
      let o = shows.office in
      let it = finds_first revision_row numbered number_of (is_of p) numbered_columns at_profile greatest (profile_params p) (profile_tested p) (λ k. refl) (λ k. refl)
      office_schema LAST_NUMBERED.now 4 (codes "number" ∷ codes "state" ∷ []) last_numbered_means old new o.schema o.revisions.entries o.revisions.kept r h in
      last_row p numbered_of numbered_row numbered_columns IsNumbered (IsNumberedOf (IsLast t p)) (λ q x formed. formed.number) (λ x is. (x, is, refl)) (λ none. none) r it

  pub reads_issued_number : (p : ProfileName) (r : Result (Option Row) Fault) → FindsRow ISSUED_NUMBER.now (profile_params p) old new r
      → IfOk r (IsRowOf number_row IsNumber (IsNumberOf (IsIssued t p)))
  reads_issued_number p r h =
      let o = shows.office in
      let it = finds_some revision_row number_of (is_in_state p Issued) number_column (in_state_of Issued) office_schema ISSUED_NUMBER.now (profile_params p) 4 (codes "number" ∷ []) issued_number_means (state_tested p Issued) (λ k. refl)
      old new o.schema o.revisions.entries o.revisions.kept r h in
      issued_row p (λ (x : RevisionRow). x.number) number_row IsNumber (IsNumberOf (IsIssued t p)) (λ q x formed. formed.number) (λ x is. (x, is, refl)) (λ none. none) r it

  -- ---- the number and the digest

  pub reads_issued_brief : (p : ProfileName) (r : Result (Option Row) Fault) → FindsRow ISSUED_BRIEF.now (profile_params p) old new r
      → IfOk r (IsRowOf brief_row IsBrief (IsBriefOf (IsIssued t p)))
  reads_issued_brief p r h =
      let o = shows.office in
      let it = finds_some revision_row in_brief (is_in_state p Issued) (col 1 3 ∷ col 1 7 ∷ []) (in_state_of Issued) office_schema ISSUED_BRIEF.now (profile_params p) 4 (codes "number" ∷ codes "digest" ∷ []) brief_means (state_tested p Issued) (λ k. refl)
      old new o.schema o.revisions.entries o.revisions.kept r h in
      issued_row p brief_of brief_row IsBrief (IsBriefOf (IsIssued t p)) (λ q x formed. record { number = formed.number; digest = formed.digest }) (λ x is. (x, is, refl)) (λ none. none) r it

  pub reads_any : (p : ProfileName) (r : Result (Option Row) Fault) → FindsRow REVISION_OF.now (profile_params p) old new r
      → IfOk r (λ row. is_some row ≡ true ↔ HasRevision t p)
  reads_any p r h =
      let o = shows.office in
      let it = finds_some revision_row number_of (is_of p) number_column at_profile office_schema REVISION_OF.now (profile_params p) 4 (codes "number" ∷ []) any_means (profile_tested p) (λ k. refl)
      old new o.schema o.revisions.entries o.revisions.kept r h in
      any_among (is_of p) o.revisions.entries number_of (λ found. found ≡ true ↔ HasRevision t p)
      (λ e has of. (
        (λ _. record { number = e.1.number; revision = e.1; there = subst (λ q. t.revisions q e.1.number ≡ Some e.1) (sym (same_profile p e.0 of)) (found_at e has) }),
        (λ _. refl),
      ))
      (λ none. (
        (λ e. absurd cc),
        (λ has.
            let s = stands p has.number has.revision has.there in
            absurd (none s.entry s.has ((profiles_decide p s.entry.0).1 (ap (λ (k : ProfileName × ℕ). k.0) s.key)))),
      )) r it

pub same_columns : (r s : RevisionRow) → revision_columns r ≡ revision_columns s → r ≡ s
same_columns r s same =
    let number : r.number ≡ s.number = cc in
    let author : r.author ≡ s.author = cc in
    let numbered : state_number r.state ≡ state_number s.state = cc in
    let state : r.state ≡ s.state = numbered_as r.state s.state numbered in
    let body : r.body ≡ s.body = cc in
    let digest : r.digest ≡ s.digest = cc in
    λ i. record { number = number i; author = author i; state = state i; body = body i; digest = digest i }

pub same_summary : (r s : Summary) → summary_row r ≡ summary_row s → r ≡ s
same_summary r s same =
    let numbered : state_number r.state ≡ state_number s.state = cc in
    let state : r.state ≡ s.state = numbered_as r.state s.state numbered in
    let digest : r.digest ≡ s.digest = cc in
    λ i. record { state = state i; digest = digest i }

pub same_brief : (r s : Brief) → brief_row r ≡ brief_row s → r ≡ s
same_brief r s same =
    let number : r.number ≡ s.number = cc in
    let digest : r.digest ≡ s.digest = cc in
    λ i. record { number = number i; digest = digest i }
