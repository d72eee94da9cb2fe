-- What the writes of revisions make of the tables.
use Rattle.std.proofs.Common.{◌≡◌, ℕ, ℤ, pos, List, [], ◌∷◌, Bool, true, false, cond, Option, None, Some, refl, sym, ap, ◌∙◌}
use Rattle.std.specs.Prelude.{◌&&◌, ◌==◌, find, option_map}
use Rattle.std.specs.List.{list_all}
use Rattle.std.specs.Cmp.{both_ways}
use Rattle.sqlite.specs.declared.types.Value.TheVariants.{Null, Int}
use Rattle.sqlite.specs.Order.{Row}
use Rattle.sqlite.specs.Term.{Term, lit, col, holds}
use Rattle.sqlite.specs.Cast.{cast_row}
use Rattle.sqlite.specs.Store.{Ghosts}
use Rattle.sqlite.specs.Command.TheVariants.{Insert, Update}
use Rattle.sqlite.specs.Source.TheVariants.{Values}
use Rattle.sqlite.specs.Held.{state}
use Rattle.sqlite_tied.specs.Compute.{everything}
use Rattle.sqlite.specs.Listing.{understood}
use Rattle.sqlite_rules.proofs.ListLemmas.{has_found}
use Rattle.office_words.specs.declared.name.ProfileName.{ProfileName}
use Rattle.office_words.specs.declared.revision.State.{State}
use Rattle.office_words.specs.declared.revision.State.TheVariants.{Open, Closed, Issued, Replaced, Withdrawn}
use Rattle.office_words.specs.declared.row.RevisionRow.{RevisionRow}
use Rattle.office_words.specs.Tables.{Tables, is_profile}
use Rattle.office_words.specs.Changes.{in_state, after_submission, after_issue, with_revision, with_issued, with_withdrawn}
use Rattle.office_rows.specs.Entries.{row_of}
use Rattle.office_rows.specs.Statements.{Statement}
use Rattle.office_rows.proofs.Permuted.{changed_if}
use Rattle.office_rows.proofs.Plain.{plain_query, Means}
use Rattle.office_rows.proofs.Failing.{update_failed, insert_failed}
use Rattle.office_rows.proofs.Steps.{changes, puts}
use Rattle.office_store.specs.declared.revisions.TheConstants.{CLOSE_OPEN, REPLACE_ISSUED, ISSUE_REVISION, WITHDRAW_REVISION, INSERT_REVISION}
use Rattle.office_store.specs.Schema.{office_schema, revisions_table}
use Rattle.office_store.specs.Entries.{Revision, same_revision, revision_key, revision_row, IsRevision, state_number}
use Rattle.office_store.specs.Steps.{IsStep, AreSteps}
use Rattle.office_store.proofs.Columns.{cast_null, cast_int}
use Rattle.office_store.proofs.Lenses.{is_revisions, with_revisions}
use Rattle.office_store.specs.Keys.{profile_params, revision_params}
use Rattle.office_store.proofs.Profiles.{at_revision, revision_tested, in_state_of, is_in_state, state_tested, revisions_decide, profile_sym}

-- ---- the texts

abbrev pub put_state : State → List Term
put_state s = col 1 0 ∷ col 1 1 ∷ col 1 2 ∷ col 1 3 ∷ col 1 4 ∷ lit (Int (pos (state_number s))) ∷ col 1 6 ∷ col 1 7 ∷ []

pub close_means : Means office_schema CLOSE_OPEN.now (Update 2 (record { lets = []; body = plain_query (col 1 0 ∷ put_state Closed) (in_state_of Open) 4 }))
unfolding understood everything
close_means = record { is = refl; plain = (refl, refl); unlisted = refl }

pub replace_means : Means office_schema REPLACE_ISSUED.now (Update 2 (record { lets = []; body = plain_query (col 1 0 ∷ put_state Replaced) (in_state_of Issued) 4 }))
unfolding understood everything
replace_means = record { is = refl; plain = (refl, refl); unlisted = refl }

pub issue_means : Means office_schema ISSUE_REVISION.now (Update 2 (record { lets = []; body = plain_query (col 1 0 ∷ put_state Issued) at_revision 4 }))
unfolding understood everything
issue_means = record { is = refl; plain = (refl, refl); unlisted = refl }

pub withdraw_means : Means office_schema WITHDRAW_REVISION.now (Update 2 (record { lets = []; body = plain_query (col 1 0 ∷ put_state Withdrawn) at_revision 4 }))
unfolding understood everything
withdraw_means = record { is = refl; plain = (refl, refl); unlisted = refl }

abbrev pub insert_terms : List Term
insert_terms = lit Null ∷ col 0 0 ∷ col 0 1 ∷ col 0 2 ∷ col 0 3 ∷ col 0 4 ∷ col 0 5 ∷ col 0 6 ∷ []

pub insert_means : Means office_schema INSERT_REVISION.now (Insert 2 (Values insert_terms 8))
unfolding understood everything
insert_means = record { is = refl; plain = (refl, refl); unlisted = refl }

abbrev pub close_open : ProfileName → Statement
close_open p = record { sql = CLOSE_OPEN.now; params = profile_params p }

abbrev pub replace_issued : ProfileName → Statement
replace_issued p = record { sql = REPLACE_ISSUED.now; params = profile_params p }

abbrev pub issue_revision : ProfileName → ℕ → Statement
issue_revision p n = record { sql = ISSUE_REVISION.now; params = revision_params p n }

abbrev pub withdraw_revision : ProfileName → ℕ → Statement
withdraw_revision p n = record { sql = WITHDRAW_REVISION.now; params = revision_params p n }

abbrev pub insert_revision : Revision → Statement
insert_revision e = record { sql = INSERT_REVISION.now; params = revision_row e }

-- ---- a revision whose state is changed

abbrev pub put_in : State → Revision → Revision
put_in s e = (e.0, in_state s e.1)

key_kept : (s : State) (b : Bool) (e : Revision) → revision_key (cond b (put_in s e) e) ≡ revision_key e
key_kept s true e = refl
key_kept s false e = refl

form_kept : (s : State) (b : Bool) (e : Revision) → IsRevision e → IsRevision (cond b (put_in s e) e)
form_kept s true e h = record { profile = h.profile; number = h.number; author = h.author; body = h.body; digest = h.digest }
form_kept s false e h = h

pub cast_kept : (k : ℤ × Revision) → cast_row (revisions_table 4) (row_of revision_row k) ≡ row_of revision_row k
cast_kept k = rw (cast_int k.0, cast_int (pos k.1.1.number), cast_int (pos (state_number k.1.1.state)))

pub cast_new : (e : Revision) → cast_row (revisions_table 4) (Null ∷ revision_row e) ≡ Null ∷ revision_row e
cast_new e = rw (cast_null, cast_int (pos e.1.number), cast_int (pos (state_number e.1.state)))

second : (c : Bool) (p : ProfileName) (x y : RevisionRow) → (cond {A = Revision} c (p, x) (p, y)).1 ≡ cond c x y
second true p x y = refl
second false p x y = refl

abbrev pub at_key : ProfileName → ℕ → Revision → Bool
at_key q n e = same_revision (q, n) (revision_key e)

-- what is found at a key after the change of entries is what was found there, changed
found_changed : (passes : Revision → Bool) (s : State) (f : ProfileName → ℕ → RevisionRow → RevisionRow)
    → ((q : ProfileName) (n : ℕ) (e : Revision) → (q, n) ≡ revision_key e → f q n e.1 ≡ (changed_if passes (put_in s) e).1)
    → (q : ProfileName) (n : ℕ) (o : Option Revision) → ((e : Revision) → o ≡ Some e → (q, n) ≡ revision_key e)
    → option_map (f q n) (option_map (λ (e : Revision). e.1) o) ≡ option_map (λ (e : Revision). e.1) (option_map (changed_if passes (put_in s)) o)
found_changed passes s f does q n None here = refl
found_changed passes s f does q n (Some e) here = ap Some (does q n e (here e refl))

abbrev pub changed_by : (ProfileName → ℕ → RevisionRow → RevisionRow) → Tables → Tables
changed_by f t = record t { revisions = λ q n. option_map (f q n) (t.revisions q n) }

module _ {S : Type 0} (g : Ghosts S) where
  state_step : (sql : List ℕ) (params : Row) (passes : Revision → Bool) (s : State) (tests : List Term)
      → Means office_schema sql (Update 2 (record { lets = []; body = plain_query (col 1 0 ∷ put_state s) tests 4 }))
      → ((k : ℤ × Revision) → list_all (holds (params ∷ row_of revision_row k ∷ [])) tests ≡ passes k.1)
      → (f : ProfileName → ℕ → RevisionRow → RevisionRow) → ((q : ProfileName) (n : ℕ) (e : Revision) → (q, n) ≡ revision_key e → f q n e.1 ≡ (changed_if passes (put_in s) e).1)
      → (t : Tables) → IsStep g (record { sql = sql; params = params }) t (changed_by f t)
  state_step sql params passes s tests means tested f does t = record {
    ok = λ old new count o ran.
        let it = changes same_revision revisions_decide revision_key revision_row IsRevision office_schema 2 (revisions_table 4) is_revisions sql params (state g old) (state g new) count o.schema ran o.revisions
        passes (put_in s) (λ e. key_kept s (passes e) e) (λ e h. form_kept s (passes e) e h) (put_state s) tests means tested (λ k. refl) (λ k. cast_kept (k.0, put_in s k.1)) in
        with_revisions (state g old).now (state g new).now t o it.writes it.left _
        (λ q n. ap (option_map (f q n)) (o.revisions_are q n)
        ∙ found_changed passes s f does q n (find (at_key q n) o.revisions.entries) (λ e at. (revisions_decide (q, n) (revision_key e)).0 (has_found (at_key q n) o.revisions.entries e at).1)
        ∙ sym (ap (option_map (λ (e : Revision). e.1)) (it.are (q, n))));
    err = λ old new e o failed. update_failed sql params 2 _ office_schema (state g old) (state g new) e o.schema means failed;
  }

  -- ---- the open revision of a profile is closed

  abbrev pub closed : ProfileName → ProfileName → ℕ → RevisionRow → RevisionRow
  closed p q n r = cond (is_profile q p) (after_submission r) r

  closes : (b : Bool) (s : State) (number : ℕ) (author body digest : List ℕ) →
      let r : RevisionRow = record { number = number; author = author; state = s; body = body; digest = digest } in
      cond b (after_submission r) r ≡ cond (b && (state_number Open == state_number s)) (in_state Closed r) r
  closes true Open number author body digest = refl
  closes true Closed number author body digest = refl
  closes true Issued number author body digest = refl
  closes true Replaced number author body digest = refl
  closes true Withdrawn number author body digest = refl
  closes false s number author body digest = refl

  does_close : (p q : ProfileName) (n : ℕ) (e : Revision) → (q, n) ≡ revision_key e → closed p q n e.1 ≡ (changed_if (is_in_state p Open) (put_in Closed) e).1
  does_close p q n e here =
      (λ i. cond (is_profile (here i).0 p) (after_submission e.1) e.1) ∙ (λ i. cond (profile_sym e.0 p i) (after_submission e.1) e.1)
      ∙ closes (is_profile p e.0) e.1.state e.1.number e.1.author e.1.body e.1.digest ∙ sym (second (is_in_state p Open e) e.0 (in_state Closed e.1) e.1)

  pub close_step : (p : ProfileName) (t : Tables) → IsStep g (close_open p) t (changed_by (closed p) t)
  close_step p = state_step CLOSE_OPEN.now (profile_params p) (is_in_state p Open) Closed (in_state_of Open) close_means (state_tested p Open) (closed p) (does_close p)

  -- ---- the issued revision of a profile is replaced

  abbrev pub replaced : ProfileName → ProfileName → ℕ → RevisionRow → RevisionRow
  replaced p q n r = cond (is_profile q p) (after_issue r) r

  replaces : (b : Bool) (s : State) (number : ℕ) (author body digest : List ℕ) →
      let r : RevisionRow = record { number = number; author = author; state = s; body = body; digest = digest } in
      cond b (after_issue r) r ≡ cond (b && (state_number Issued == state_number s)) (in_state Replaced r) r
  replaces true Open number author body digest = refl
  replaces true Closed number author body digest = refl
  replaces true Issued number author body digest = refl
  replaces true Replaced number author body digest = refl
  replaces true Withdrawn number author body digest = refl
  replaces false s number author body digest = refl

  does_replace : (p q : ProfileName) (n : ℕ) (e : Revision) → (q, n) ≡ revision_key e → replaced p q n e.1 ≡ (changed_if (is_in_state p Issued) (put_in Replaced) e).1
  does_replace p q n e here =
      (λ i. cond (is_profile (here i).0 p) (after_issue e.1) e.1) ∙ (λ i. cond (profile_sym e.0 p i) (after_issue e.1) e.1)
      ∙ replaces (is_profile p e.0) e.1.state e.1.number e.1.author e.1.body e.1.digest ∙ sym (second (is_in_state p Issued e) e.0 (in_state Replaced e.1) e.1)

  pub replace_step : (p : ProfileName) (t : Tables) → IsStep g (replace_issued p) t (changed_by (replaced p) t)
  replace_step p = state_step REPLACE_ISSUED.now (profile_params p) (is_in_state p Issued) Replaced (in_state_of Issued) replace_means (state_tested p Issued) (replaced p) (does_replace p)

  -- ---- a revision comes into a state

  abbrev put_at : ProfileName → ℕ → State → ProfileName → ℕ → RevisionRow → RevisionRow
  put_at p m s q n r = cond (same_revision (q, n) (p, m)) (in_state s r) r

  revision_sym : (a b : ProfileName × ℕ) → same_revision a b ≡ same_revision b a
  revision_sym a b = both_ways _ _ (λ e. (revisions_decide b a).1 (sym ((revisions_decide a b).0 e))) (λ e. (revisions_decide a b).1 (sym ((revisions_decide b a).0 e)))

  does_put : (p : ProfileName) (m : ℕ) (s : State) (q : ProfileName) (n : ℕ) (e : Revision) → (q, n) ≡ revision_key e → put_at p m s q n e.1 ≡ (changed_if (at_key p m) (put_in s) e).1
  does_put p m s q n e here =
      (λ i. cond (same_revision (here i) (p, m)) (in_state s e.1) e.1) ∙ (λ i. cond (revision_sym (revision_key e) (p, m) i) (in_state s e.1) e.1) ∙ sym (second (at_key p m e) e.0 (in_state s e.1) e.1)

  -- ---- a revision is put in

  abbrev pub inserted : Revision → Tables → Tables
  inserted e t = record t { revisions = λ q n. cond (same_revision (q, n) (revision_key e)) (Some e.1) (t.revisions q n) }

  mapped_cond : (b : Bool) (e : Revision) (o : Option Revision) → cond b (Some e.1) (option_map (λ (e : Revision). e.1) o) ≡ option_map (λ (e : Revision). e.1) (cond b (Some e) o)
  mapped_cond true e o = refl
  mapped_cond false e o = refl

  pub none_mapped : (o : Option Revision) → ◌≡◌ {A = Option RevisionRow} (option_map (λ (e : Revision). e.1) o) None → o ≡ None
  none_mapped None none = refl
  none_mapped (Some e) none = absurd cc

  insert_step : (e : Revision) (t : Tables) → IsRevision e → t.revisions e.0 e.1.number ≡ None → IsStep g (insert_revision e) t (inserted e t)
  insert_step e t formed none = record {
    ok = λ old new count o ran.
        let it = puts same_revision revisions_decide revision_key revision_row IsRevision office_schema 2 (revisions_table 4) is_revisions INSERT_REVISION.now (revision_row e) (state g old) (state g new) count o.schema ran o.revisions
        e formed (none_mapped _ (sym (o.revisions_are e.0 e.1.number) ∙ none)) insert_terms 8 (Null ∷ revision_row e) insert_means refl (cast_new e) in
        with_revisions (state g old).now (state g new).now t o it.writes it.left _
        (λ q n. ap (cond (same_revision (q, n) (revision_key e)) (Some e.1)) (o.revisions_are q n) ∙ mapped_cond (same_revision (q, n) (revision_key e)) e (find (at_key q n) o.revisions.entries) ∙ sym (ap (option_map (λ (e : Revision). e.1)) (it.are (q, n))));
    err = λ old new x o failed. insert_failed INSERT_REVISION.now (revision_row e) 2 _ office_schema (state g old) (state g new) x o.schema insert_means failed;
  }

  -- ---- the writes

  submitted : (b c : Bool) (r : RevisionRow) (o : Option RevisionRow) → cond (b && c) (Some r) (option_map (λ r. cond b (after_submission r) r) o) ≡ cond b (cond c (Some r) (option_map after_submission o)) o
  submitted true c r o = refl
  submitted false c r None = refl
  submitted false c r (Some x) = refl

  pub still_none : (b : Bool) (o : Option RevisionRow) → o ≡ None → option_map (λ r. cond b (after_submission r) r) o ≡ None
  still_none b None none = refl
  still_none b (Some r) none = absurd cc

  pub add_steps : (p : ProfileName) (r : RevisionRow) (t : Tables) → IsRevision (p, r) → t.revisions p r.number ≡ None → AreSteps g (close_open p ∷ insert_revision (p, r) ∷ []) t (with_revision p r t)
  add_steps p r t formed none = (
    changed_by (closed p) t,
    close_step p t,
    (
      inserted (p, r) (changed_by (closed p) t),
      insert_step (p, r) (changed_by (closed p) t) formed (still_none (is_profile p p) (t.revisions p r.number) none),
      λ i. record t { revisions = λ q n. submitted (is_profile q p) (n == r.number) r (t.revisions q n) i },
    ),
  )

  issued : (b c : Bool) (o : Option RevisionRow)
      → option_map (λ r. cond (b && c) (in_state Issued r) r) (option_map (λ r. cond b (after_issue r) r) o) ≡ cond b (cond c (option_map (in_state Issued) o) (option_map after_issue o)) o
  issued true true None = refl
  issued true true (Some r) = refl
  issued true false None = refl
  issued true false (Some r) = refl
  issued false c None = refl
  issued false c (Some r) = refl

  pub issue_steps : (p : ProfileName) (m : ℕ) (t : Tables) → AreSteps g (replace_issued p ∷ issue_revision p m ∷ []) t (with_issued p m t)
  issue_steps p m t = (
    changed_by (replaced p) t,
    replace_step p t,
    (
      changed_by (put_at p m Issued) (changed_by (replaced p) t),
      state_step ISSUE_REVISION.now (revision_params p m) (at_key p m) Issued at_revision issue_means (revision_tested p m) (put_at p m Issued) (does_put p m Issued) (changed_by (replaced p) t),
      λ i. record t { revisions = λ q n. issued (is_profile q p) (n == m) (t.revisions q n) i },
    ),
  )

  withdrawn : (b : Bool) (o : Option RevisionRow) → option_map (λ r. cond b (in_state Withdrawn r) r) o ≡ cond b (option_map (in_state Withdrawn) o) o
  withdrawn true None = refl
  withdrawn true (Some r) = refl
  withdrawn false None = refl
  withdrawn false (Some r) = refl

  pub withdraw_steps : (p : ProfileName) (m : ℕ) (t : Tables) → AreSteps g (withdraw_revision p m ∷ []) t (with_withdrawn p m t)
  withdraw_steps p m t = (
    changed_by (put_at p m Withdrawn) t,
    state_step WITHDRAW_REVISION.now (revision_params p m) (at_key p m) Withdrawn at_revision withdraw_means (revision_tested p m) (put_at p m Withdrawn) (does_put p m Withdrawn) t,
    λ i. record t { revisions = λ q n. withdrawn (is_profile q p && (n == m)) (t.revisions q n) i },
  )
