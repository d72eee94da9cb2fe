-- Why SQLite refuses a statement of a write: it has no place for a row, and no key is at fault.
use Rattle.std.proofs.Common.{inl, inr, ◌⊎◌, ◌≡◌, ℕ, ℤ, pos, List, [], ◌∷◌, map, Bool, true, false, cond, None, Some, IsTrue, refl, sym, ap, subst, ◌∙◌, true≢false, arith}
use Rattle.std.specs.Prelude.{find, bytes_eq}
use Rattle.std.specs.List.{AllByRecursion, list_all}
use Rattle.std.proofs.lemmas.Slice.Eq.{bytes_eq-Decides}
use Rattle.sqlite.specs.Command.TheVariants.{Select}
use Rattle.sqlite.specs.Effect.{Database}
use Rattle.sqlite.specs.Held.{Held, state}
use Rattle.sqlite.specs.Listing.{understood}
use Rattle.sqlite.specs.Order.{Row}
use Rattle.sqlite.specs.Store.{Ghosts}
use Rattle.sqlite.specs.Term.{Term, col, holds}
use Rattle.sqlite.specs.declared.error.Error.{Error}
use Rattle.sqlite.specs.declared.error.Error.TheVariants as error
use Rattle.sqlite.specs.declared.error.ErrorCode.TheVariants.{TooBig}
use Rattle.sqlite.specs.declared.types.Value.TheVariants.{Null}
use Rattle.sqlite.specs.Command.TheVariants.{Update}
use Rattle.sqlite_rules.specs.Edit.{IsOversized}
use Rattle.sqlite_rules.specs.Lists.{Has}
use Rattle.sqlite_rules.proofs.ListLemmas.{all_has}
use Rattle.sqlite_schema.specs.Rules.{agree, guards}
use Rattle.sqlite_schema.specs.declared.schema.Index.{Index}
use Rattle.sqlite_tied.specs.Compute.{everything}
use Rattle.sqlite_trees.specs.Tree.{IsAscending}
use Rattle.sqlite_value.specs.Keys.{first_key, plain}
use Rattle.office_words.specs.declared.name.ProfileName.{ProfileName}
use Rattle.office_words.specs.declared.revision.State.{State}
use Rattle.office_words.specs.declared.revision.State.TheVariants.{Open, Closed, Issued, Replaced, Withdrawn}
use Rattle.office_words.specs.declared.fault.Fault.{Fault}
use Rattle.office_words.specs.declared.fault.Fault.TheVariants.{NoMemory, Disk, Full, NotAnOffice}
use Rattle.office_words.specs.declared.row.RevisionRow.{RevisionRow}
use Rattle.office_words.specs.declared.row.UserRow.{UserRow}
use Rattle.office_words.specs.Changes.{with_user, without_hold}
use Rattle.office_words.specs.Tables.{Tables, is_profile}
use Rattle.office_rows.specs.Entries.{Keeps, row_of}
use Rattle.office_rows.specs.Faults.{fault_of_error}
use Rattle.office_rows.specs.Refusals.{HasLongRowid, IsBig}
use Rattle.office_rows.specs.Statements.{Statement, begun, IsCause, IsRefused, RefusedIn, Refuses}
use Rattle.office_rows.proofs.Halting.{IsOne, IsFree}
use Rattle.office_rows.proofs.Plain.{plain_query, Means}
use Rattle.office_rows.proofs.Refused.{delete_refused, insert_refused}
use Rattle.office_rows.proofs.RefusedUpdates.{update_refused}
use Rattle.office_rows.proofs.RefusedUpserts.{upsert_refused}
use Rattle.office_rows.proofs.Rowids.{has_mapped, mapped_has, has_permuted}
use Rattle.office_rows.proofs.Stored.{find_own, none_found}
use Rattle.office_rows.proofs.Storing.{big_of, blob_finite, finite, storable, text_finite}
use Rattle.office_rows.proofs.Sure.{IsSureQuery}
use Rattle.office_store.specs.declared.baselines.TheConstants.{PUT_BASELINE}
use Rattle.office_store.specs.declared.holds.TheConstants.{DELETE_HOLD, INSERT_HOLD}
use Rattle.office_store.specs.declared.revisions.TheConstants.{CLOSE_OPEN, INSERT_REVISION, REPLACE_ISSUED, ISSUE_REVISION, WITHDRAW_REVISION}
use Rattle.office_store.specs.declared.users.TheConstants.{PUT_USER}
use Rattle.office_store.specs.declared.votes.TheConstants.{PUT_VOTE}
use Rattle.office_store.specs.Entries.{bit, user_row, is_named, Revision, revision_row, revision_key, same_revision, state_number, VoteEntry, vote_row, same_vote, BaselineEntry, baseline_entry, baseline_row, hold_row}
use Rattle.office_store.specs.Refusing.{Write, puts_user, adds_revision, issues, withdraws, puts_vote, puts_baseline, puts_hold, deletes_hold, statements_of, HaveOwnTokens, LacksPlace, LacksPlaceFor, Makes, RefusedForPlace, Stops}
use Rattle.office_store.specs.Schema.{office_schema, users_table, revisions_table, votes_table, baselines_table, holds_table}
use Rattle.office_store.specs.Shown.{IsIdle, IsOffice, Shows}
use Rattle.office_store.specs.Steps.{IsStep}
use Rattle.office_store.proofs.Columns.{column_is, text_is, blob_is, number_is, rowid_is, one_is, two_are, three_are, four_are}
use Rattle.office_store.proofs.Lenses.{is_users, is_revisions, is_votes, is_baselines, is_holds}
use Rattle.office_store.proofs.OtherWrites as other
use Rattle.office_store.specs.Keys.{profile_params, revision_params}
use Rattle.office_store.proofs.Profiles.{at_profile, at_revision, in_state_of, is_in_state, profiles_decide, revision_tested, state_tested, votes_decide}
use Rattle.office_store.proofs.RevisionWrites as revisions
use Rattle.office_store.proofs.UserWrites as users

-- ---- the tables of the schema

office_apart : IsAscending (λ a b. a.tree ≡ b.tree → ⊥) office_schema.tables
office_apart = (
  ((λ e. omega (arith, e)), ((λ e. omega (arith, e)), ((λ e. omega (arith, e)), ((λ e. omega (arith, e)), ((λ e. omega (arith, e)), tt))))),
  (
    ((λ e. omega (arith, e)), ((λ e. omega (arith, e)), ((λ e. omega (arith, e)), ((λ e. omega (arith, e)), tt)))),
    (
      ((λ e. omega (arith, e)), ((λ e. omega (arith, e)), ((λ e. omega (arith, e)), tt))),
      (
        ((λ e. omega (arith, e)), ((λ e. omega (arith, e)), tt)),
        (((λ e. omega (arith, e)), tt), (tt, tt)),
      ),
    ),
  ),
)

unreferred : AllByRecursion (λ t. t.references ≡ []) office_schema.tables
unreferred = (refl, (refl, (refl, (refl, (refl, (refl, tt))))))

free_users : IsFree office_schema 1 (users_table 1)
free_users = record { is_table = is_users; listed = inr (inl refl); apart = office_apart; unreferred = unreferred }

free_revisions : IsFree office_schema 2 (revisions_table 4)
free_revisions = record { is_table = is_revisions; listed = inr (inr (inl refl)); apart = office_apart; unreferred = unreferred }

free_votes : IsFree office_schema 3 (votes_table 6)
free_votes = record { is_table = is_votes; listed = inr (inr (inr (inl refl))); apart = office_apart; unreferred = unreferred }

free_baselines : IsFree office_schema 4 (baselines_table 8)
free_baselines = record { is_table = is_baselines; listed = inr (inr (inr (inr (inl refl)))); apart = office_apart; unreferred = unreferred }

free_holds : IsFree office_schema 5 (holds_table 10)
free_holds = record { is_table = is_holds; listed = inr (inr (inr (inr (inr (inl refl))))); apart = office_apart; unreferred = unreferred }

-- the index of a key, in rising order
abbrev IsKey : List ℕ → Index → Type 0
IsKey columns i = (i.columns ≡ columns) × (i.order ≡ plain)

never : {P : Type 0} → ◌≡◌ {A = Bool} false true → P
never on = absurd (true≢false (sym on))

revision_key_of : (i : Index) → Has office_schema.indexes i → guards i (revisions_table 4) ≡ true → IsKey (1 ∷ 2 ∷ 3 ∷ []) i
revision_key_of i known =
    all_has (λ (i : Index). guards i (revisions_table 4) ≡ true → IsKey (1 ∷ 2 ∷ 3 ∷ []) i) office_schema.indexes i (never, (never, ((λ on. (refl, refl)), (never, (never, (never, (never, (never, tt)))))))) known

vote_key_of : (i : Index) → Has office_schema.indexes i → guards i (votes_table 6) ≡ true → IsKey (1 ∷ 2 ∷ 3 ∷ 4 ∷ []) i
vote_key_of i known =
    all_has (λ (i : Index). guards i (votes_table 6) ≡ true → IsKey (1 ∷ 2 ∷ 3 ∷ 4 ∷ []) i) office_schema.indexes i (never, (never, (never, ((λ on. (refl, refl)), (never, (never, (never, (never, tt)))))))) known

baseline_key_of : (i : Index) → Has office_schema.indexes i → guards i (baselines_table 8) ≡ true → IsKey (1 ∷ []) i
baseline_key_of i known =
    all_has (λ (i : Index). guards i (baselines_table 8) ≡ true → IsKey (1 ∷ []) i) office_schema.indexes i (never, (never, (never, (never, ((λ on. (refl, refl)), (never, (never, (never, tt)))))))) known

hold_key_of : (i : Index) → Has office_schema.indexes i → guards i (holds_table 10) ≡ true → IsKey (1 ∷ 2 ∷ []) i
hold_key_of i known =
    all_has (λ (i : Index). guards i (holds_table 10) ≡ true → IsKey (1 ∷ 2 ∷ []) i) office_schema.indexes i (never, (never, (never, (never, (never, ((λ on. (refl, refl)), (never, (never, tt)))))))) known

-- that of the name, or that of the token
user_key_of : (i : Index) → Has office_schema.indexes i → guards i (users_table 1) ≡ true → IsKey (1 ∷ []) i ⊎ IsKey (4 ∷ []) i
user_key_of i known =
    all_has (λ (i : Index). guards i (users_table 1) ≡ true → IsKey (1 ∷ []) i ⊎ IsKey (4 ∷ []) i) office_schema.indexes i
    ((λ on. inl (refl, refl)), ((λ on. inr (refl, refl)), (never, (never, (never, (never, (never, (never, tt)))))))) known

agree_at : (i : Index) (columns : List ℕ) (a b : Row) → IsKey columns i → agree i.order i.columns a i.columns b ≡ agree plain columns a columns b
agree_at i columns a b key = λ t. agree (key.1 t) (key.0 t) a (key.0 t) b

-- ---- rows that are too big

hold_big : (k : ℤ × ProfileName) → IsOversized office_schema (holds_table 10) (row_of hold_row k) → IsBig (row_of hold_row k)
hold_big k =
    big_of office_schema (holds_table 10) (row_of hold_row k) (λ short. (storable _ _ refl (omega arith) (omega arith) (finite k.0, (text_finite k.1.team, (text_finite k.1.profile, tt))) short, omega arith))
    (λ short. (
      (λ is. absurd (omega (arith, is))),
      (
        (λ is. absurd (omega (arith, is))),
        (
          (λ is. absurd (omega (arith, is))),
          (
            (λ is. absurd (omega (arith, is))),
            (
              (λ is. absurd (omega (arith, is))),
              (
                (λ is. storable _ _ refl (omega arith) (omega arith) (text_finite k.1.team, (text_finite k.1.profile, (finite k.0, tt))) (omega (arith, short))),
                (
                  (λ is. absurd (omega (arith, is))),
                  ((λ is. absurd (omega (arith, is))), tt),
                ),
              ),
            ),
          ),
        ),
      ),
    ))

-- ---- the statements of a hold

one_delete : (p : ProfileName) → IsOne office_schema DELETE_HOLD.now (profile_params p)
unfolding understood everything
one_delete p = record { text = (refl, refl) }

one_hold : (p : ProfileName) → IsOne office_schema INSERT_HOLD.now (hold_row p)
unfolding understood everything
one_hold p = record { text = (refl, refl) }

hold_agree : (p : ProfileName) (id : ℤ) (k : ℤ × ProfileName) → agree plain (1 ∷ 2 ∷ []) (row_of hold_row k) (1 ∷ 2 ∷ []) (row_of hold_row (id, p)) ≡ is_profile p k.1
unfolding first_key
hold_agree p id k = two_are _ _ _ _ (text_is k.1.team p.team) (text_is k.1.profile p.profile)

-- ---- those of votes, baselines and users

vote_big : (k : ℤ × VoteEntry) → IsOversized office_schema (votes_table 6) (row_of vote_row k) → IsBig (row_of vote_row k)
vote_big k =
    big_of office_schema (votes_table 6) (row_of vote_row k)
    (λ short. (storable _ _ refl (omega arith) (omega arith) (finite k.0, (text_finite k.1.0.profile.team, (text_finite k.1.0.profile.profile, (finite (pos k.1.0.number), (text_finite k.1.0.voter, (finite (bit k.1.1.approves), (finite (bit k.1.1.security), tt))))))) short, omega arith))
    (λ short. (
      (λ is. absurd (omega (arith, is))),
      (
        (λ is. absurd (omega (arith, is))),
        (
          (λ is. absurd (omega (arith, is))),
          (
            (λ is. storable _ _ refl (omega arith) (omega arith) (text_finite k.1.0.profile.team, (text_finite k.1.0.profile.profile, (finite (pos k.1.0.number), (text_finite k.1.0.voter, (finite k.0, tt))))) (omega (arith, short))),
            (
              (λ is. absurd (omega (arith, is))),
              (
                (λ is. absurd (omega (arith, is))),
                (
                  (λ is. absurd (omega (arith, is))),
                  ((λ is. absurd (omega (arith, is))), tt),
                ),
              ),
            ),
          ),
        ),
      ),
    ))

baseline_big : (k : ℤ × BaselineEntry) → IsOversized office_schema (baselines_table 8) (row_of baseline_row k) → IsBig (row_of baseline_row k)
baseline_big k =
    big_of office_schema (baselines_table 8) (row_of baseline_row k)
    (λ short. (storable _ _ refl (omega arith) (omega arith) (finite k.0, (text_finite k.1.0, (text_finite k.1.1.profile, (finite (pos k.1.1.number), tt)))) short, omega arith))
    (λ short. (
      (λ is. absurd (omega (arith, is))),
      (
        (λ is. absurd (omega (arith, is))),
        (
          (λ is. absurd (omega (arith, is))),
          (
            (λ is. absurd (omega (arith, is))),
            (
              (λ is. storable _ _ refl (omega arith) (omega arith) (text_finite k.1.0, (finite k.0, tt)) (omega (arith, short))),
              (
                (λ is. absurd (omega (arith, is))),
                (
                  (λ is. absurd (omega (arith, is))),
                  ((λ is. absurd (omega (arith, is))), tt),
                ),
              ),
            ),
          ),
        ),
      ),
    ))

user_big : (k : ℤ × UserRow) → IsOversized office_schema (users_table 1) (row_of user_row k) → IsBig (row_of user_row k)
user_big k =
    big_of office_schema (users_table 1) (row_of user_row k)
    (λ short. (storable _ _ refl (omega arith) (omega arith) (finite k.0, (text_finite k.1.name, (text_finite k.1.team, (finite (pos k.1.roles), (blob_finite k.1.digest, tt))))) short, omega arith))
    (λ short. (
      (λ is. storable _ _ refl (omega arith) (omega arith) (text_finite k.1.name, (finite k.0, tt)) (omega (arith, short))),
      (
        (λ is. storable _ _ refl (omega arith) (omega arith) (blob_finite k.1.digest, (finite k.0, tt)) (omega (arith, short))),
        (
          (λ is. absurd (omega (arith, is))),
          (
            (λ is. absurd (omega (arith, is))),
            (
              (λ is. absurd (omega (arith, is))),
              (
                (λ is. absurd (omega (arith, is))),
                (
                  (λ is. absurd (omega (arith, is))),
                  ((λ is. absurd (omega (arith, is))), tt),
                ),
              ),
            ),
          ),
        ),
      ),
    ))

one_vote : (e : VoteEntry) → IsOne office_schema PUT_VOTE.now (vote_row e)
unfolding understood everything
one_vote e = record { text = (refl, refl) }

one_baseline : (e : BaselineEntry) → IsOne office_schema PUT_BASELINE.now (baseline_row e)
unfolding understood everything
one_baseline e = record { text = (refl, refl) }

one_user : (u : UserRow) → IsOne office_schema PUT_USER.now (user_row u)
unfolding understood everything
one_user u = record { text = (refl, refl) }

vote_agree : (e : VoteEntry) (id : ℤ) (k : ℤ × VoteEntry) → agree plain (1 ∷ 2 ∷ 3 ∷ 4 ∷ []) (row_of vote_row k) (1 ∷ 2 ∷ 3 ∷ 4 ∷ []) (row_of vote_row (id, e)) ≡ same_vote e.0 k.1.0
unfolding first_key
vote_agree e id k =
    four_are _ _ _ _ _ _ _ _ (text_is k.1.0.profile.team e.0.profile.team) (text_is k.1.0.profile.profile e.0.profile.profile) (number_is k.1.0.number e.0.number) (text_is k.1.0.voter e.0.voter)

baseline_agree : (e : BaselineEntry) (id : ℤ) (k : ℤ × BaselineEntry) → agree plain (1 ∷ []) (row_of baseline_row k) (1 ∷ []) (row_of baseline_row (id, e)) ≡ bytes_eq e.0 k.1.0
unfolding first_key
baseline_agree e id k = one_is _ _ (text_is k.1.0 e.0)

name_agree : (u : UserRow) (id : ℤ) (k : ℤ × UserRow) → agree plain (1 ∷ []) (row_of user_row k) (1 ∷ []) (row_of user_row (id, u)) ≡ bytes_eq u.name k.1.name
unfolding first_key
name_agree u id k = one_is _ _ (text_is k.1.name u.name)

token_agree : (u : UserRow) (id : ℤ) (k : ℤ × UserRow) → agree plain (4 ∷ []) (row_of user_row k) (4 ∷ []) (row_of user_row (id, u)) ≡ bytes_eq u.digest k.1.digest
unfolding first_key
token_agree u id k = one_is _ _ (blob_is k.1.digest u.digest)

-- ---- those of revisions

revision_big : (k : ℤ × Revision) → IsOversized office_schema (revisions_table 4) (row_of revision_row k) → IsBig (row_of revision_row k)
revision_big k =
    big_of office_schema (revisions_table 4) (row_of revision_row k)
    (λ short. (storable _ _ refl (omega arith) (omega arith) (finite k.0, (text_finite k.1.0.team, (text_finite k.1.0.profile, (finite (pos k.1.1.number), (text_finite k.1.1.author, (finite (pos (state_number k.1.1.state)), (text_finite k.1.1.body, (blob_finite k.1.1.digest, tt)))))))) short, omega arith))
    (λ short. (
      (λ is. absurd (omega (arith, is))),
      (
        (λ is. absurd (omega (arith, is))),
        (
          (λ is. storable _ _ refl (omega arith) (omega arith) (text_finite k.1.0.team, (text_finite k.1.0.profile, (finite (pos k.1.1.number), (finite k.0, tt)))) (omega (arith, short))),
          (
            (λ is. absurd (omega (arith, is))),
            (
              (λ is. absurd (omega (arith, is))),
              (
                (λ is. absurd (omega (arith, is))),
                (
                  (λ is. storable _ _ refl (omega arith) (omega arith) (text_finite k.1.0.team, (text_finite k.1.0.profile, (finite (pos (state_number k.1.1.state)), (finite (pos k.1.1.number), (finite k.0, tt))))) (omega (arith, short))),
                  ((λ is. storable _ _ refl (omega arith) (omega arith) (text_finite k.1.0.team, (text_finite k.1.0.profile, (text_finite k.1.1.author, (finite k.0, tt)))) (omega (arith, short))), tt),
                ),
              ),
            ),
          ),
        ),
      ),
    ))

one_close : (p : ProfileName) → IsOne office_schema CLOSE_OPEN.now (profile_params p)
unfolding understood everything
one_close p = record { text = (refl, refl) }

one_replace : (p : ProfileName) → IsOne office_schema REPLACE_ISSUED.now (profile_params p)
unfolding understood everything
one_replace p = record { text = (refl, refl) }

one_issue : (p : ProfileName) (n : ℕ) → IsOne office_schema ISSUE_REVISION.now (revision_params p n)
unfolding understood everything
one_issue p n = record { text = (refl, refl) }

one_withdraw : (p : ProfileName) (n : ℕ) → IsOne office_schema WITHDRAW_REVISION.now (revision_params p n)
unfolding understood everything
one_withdraw p n = record { text = (refl, refl) }

one_revision : (r : Revision) → IsOne office_schema INSERT_REVISION.now (revision_row r)
unfolding understood everything
one_revision r = record { text = (refl, refl) }

revision_agree : (r : Revision) (id : ℤ) (k : ℤ × Revision) → agree plain (1 ∷ 2 ∷ 3 ∷ []) (row_of revision_row k) (1 ∷ 2 ∷ 3 ∷ []) (row_of revision_row (id, r)) ≡ same_revision (revision_key r) (revision_key k.1)
unfolding first_key
revision_agree r id k = three_are _ _ _ _ _ _ (text_is k.1.0.team r.0.team) (text_is k.1.0.profile r.0.profile) (number_is k.1.1.number r.1.number)

-- the entry of a row, which isn't at the key
module _ {X : Type 0} (encode : X → Row) (rows : List Row) (xs : List X) (keeps : Keeps encode rows xs) where
  entry_at : (k : ℤ × X) → Has keeps.kept k → Has xs k.1
  entry_at k h = has_permuted (map (λ (j : ℤ × X). j.1) keeps.kept) xs k.1 keeps.same (mapped_has (λ (j : ℤ × X). j.1) keeps.kept k h)

  elsewhere : (p : X → Bool) → find p xs ≡ None → (r : Row) → Has rows r → (k : ℤ × X) × (r ≡ row_of encode k) × (p k.1 ≡ false)
  elsewhere p none r h =
      let k = has_mapped (row_of encode) keeps.kept r (subst (λ (rs : List Row). Has rs r) keeps.rows_are h) in
      (k.0, k.2, none_found p xs none k.0.1 (entry_at k.0 k.1))

module _ {S : Type 0} (g : Ghosts S) (h : Held S) (e : Error) (t : Tables) (o : IsOffice (state g h).now t) (started : IsTrue (state g h).in_transaction) (unlimited : (state g h).step_limit ≡ None) where
  abbrev db : Database
  db = (state g h).now

  said : (w : Write) (Lacks Big : Type 0) → (Lacks → LacksPlace w db Disk) → (Big → LacksPlace w db Full) → ((fault_of_error e ≡ Disk) × Lacks) ⊎ ((e ≡ error.SqliteFailure TooBig) × Big)
      → LacksPlace w db (fault_of_error e)
  said w Lacks Big lacks big (inl it) = subst (LacksPlace w db) (sym it.0) (lacks it.1)
  said w Lacks Big lacks big (inr it) = subst (λ (x : Error). LacksPlace w db (fault_of_error x)) (sym it.0) (big it.1)

  pub delete_hold_sure : (p : ProfileName) → IsRefused g (other.delete_hold p) h e → ⊥
  delete_hold_sure p refused =
      delete_refused office_schema 5 (holds_table 10) free_holds DELETE_HOLD.now (profile_params p) (one_delete p) (state g h) (state g refused.0) e o.schema o.sound started unlimited refused.1 refused.2
      (record { lets = []; body = plain_query (col 1 0 ∷ []) at_profile 10 }) other.delete_hold_means (refl, refl, refl, refl)

  pub insert_hold_lacks : (p : ProfileName) → t.holds p ≡ false → IsRefused g (other.insert_hold p) h e → LacksPlace (puts_hold p) db (fault_of_error e)
  insert_hold_lacks p none refused =
      said (puts_hold p) _ _ (λ lacks. lacks) (λ big. (Null ∷ hold_row p, inl refl, hold_big (_, p) big))
      (insert_refused office_schema 5 (holds_table 10) free_holds INSERT_HOLD.now (hold_row p) (one_hold p) (state g h) (state g refused.0) e o.schema o.sound started unlimited refused.1 refused.2
      hold_row p other.hold_terms 3 (Null ∷ hold_row p) other.insert_hold_means refl refl (other.cast_hold p) (λ trees id. (refl, refl, refl)) alone)
    where
      alone : (i : Index) → Has office_schema.indexes i → guards i (holds_table 10) ≡ true → (id : ℤ) (r : Row) → Has (db.trees 10) r → agree i.order i.columns r i.columns (row_of hold_row (id, p)) ≡ true → ⊥
      alone i known on id r there tie =
          let k = elsewhere hold_row (db.trees 10) o.holds.entries o.holds.kept (is_profile p) (other.none_held _ (sym (o.holds_are p) ∙ none)) r there in
          true≢false (sym tie ∙ agree_at i (1 ∷ 2 ∷ []) r (row_of hold_row (id, p)) (hold_key_of i known on) ∙ (λ u. agree plain (1 ∷ 2 ∷ []) (k.1 u) (1 ∷ 2 ∷ []) (row_of hold_row (id, p)))
          ∙ hold_agree p id k.0 ∙ k.2)

  pub put_vote_lacks : (v : VoteEntry) → IsRefused g (other.put_vote v) h e → LacksPlace (puts_vote v) db (fault_of_error e)
  put_vote_lacks v refused =
      said (puts_vote v) _ _ (λ lacks. lacks) (λ big. (Null ∷ vote_row v, inl refl, vote_big (big.1.0, v) (subst (IsOversized office_schema (votes_table 6)) big.1.1 big.2)))
      (upsert_refused office_schema 3 (votes_table 6) free_votes PUT_VOTE.now (vote_row v) (one_vote v) (state g h) (state g refused.0) e o.schema o.sound started unlimited refused.1 refused.2
      same_vote votes_decide other.vote_key vote_row v (λ k. (k.0, v.1)) (λ k same i. (same i, v.1)) other.vote_terms 7 (Null ∷ vote_row v) (1 ∷ 2 ∷ 3 ∷ 4 ∷ []) other.vote_columns (column_is 0 6 ∷ [])
      other.put_vote_means refl refl (other.cast_vote v) (λ id next. (refl, refl, refl, refl)) (λ id. other.cast_voted id v) (other.vote_agrees v) (λ id more k. one_is _ _ (rowid_is k.0 id)) (λ id more k. refl)
      (λ trees id. (refl, refl, refl)) o.votes.entries o.votes.kept o.votes.own_keys
      (λ i known on id k has_k tie. sym (vote_agree v id k) ∙ sym (agree_at i (1 ∷ 2 ∷ 3 ∷ 4 ∷ []) (row_of vote_row k) (row_of vote_row (id, v)) (vote_key_of i known on)) ∙ tie))

  pub put_baseline_lacks : (p : ProfileName) (n : ℕ) → IsRefused g (other.put_baseline (baseline_entry p n)) h e → LacksPlace (puts_baseline p n) db (fault_of_error e)
  put_baseline_lacks p n refused =
      let b = baseline_entry p n in
      said (puts_baseline p n) _ _ (λ lacks. lacks) (λ big. (Null ∷ baseline_row b, inl refl, baseline_big (big.1.0, b) (subst (IsOversized office_schema (baselines_table 8)) big.1.1 big.2)))
      (upsert_refused office_schema 4 (baselines_table 8) free_baselines PUT_BASELINE.now (baseline_row b) (one_baseline b) (state g h) (state g refused.0) e o.schema o.sound started unlimited refused.1 refused.2
      bytes_eq bytes_eq-Decides other.baseline_key baseline_row b (λ k. (k.0, b.1)) (λ k same i. (same i, b.1)) other.baseline_terms 4 (Null ∷ baseline_row b) (1 ∷ []) other.baseline_columns (column_is 0 3 ∷ [])
      other.put_baseline_means refl refl (other.cast_baseline b) (λ id next. (refl, refl, refl, refl)) (λ id. other.cast_adopted id b) (other.baseline_agrees b) (λ id more k. one_is _ _ (rowid_is k.0 id)) (λ id more k. refl)
      (λ trees id. (refl, refl, refl)) o.baselines.entries o.baselines.kept o.baselines.own_keys
      (λ i known on id k has_k tie. sym (baseline_agree b id k) ∙ sym (agree_at i (1 ∷ []) (row_of baseline_row k) (row_of baseline_row (id, b)) (baseline_key_of i known on)) ∙ tie))

  -- where no other user shows the token
  pub put_user_lacks : (u : UserRow) → HaveOwnTokens (with_user u t) → IsRefused g (users.put_user u) h e → LacksPlace (puts_user u) db (fault_of_error e)
  put_user_lacks u own refused =
      said (puts_user u) _ _ (λ lacks. lacks) (λ big. (Null ∷ user_row u, inl refl, user_big (big.1.0, u) (subst (IsOversized office_schema (users_table 1)) big.1.1 big.2)))
      (upsert_refused office_schema 1 (users_table 1) free_users PUT_USER.now (user_row u) (one_user u) (state g h) (state g refused.0) e o.schema o.sound started unlimited refused.1 refused.2
      bytes_eq bytes_eq-Decides users.name_of user_row u (λ k. record u { name = k.name }) (λ k same i. record u { name = same i }) users.insert_terms 5 (Null ∷ user_row u) (1 ∷ []) users.put_columns (column_is 0 4 ∷ [])
      users.put_means refl refl (users.cast_user u) (λ id next. (refl, refl, refl, refl)) (λ id. users.cast_put id u) (users.user_agrees u) (λ id more k. one_is _ _ (rowid_is k.0 id)) (λ id more k. refl)
      (λ trees id. (refl, refl, refl)) o.users.entries o.users.kept o.users.own_keys alone)
    where
      named : (k : ℤ × UserRow) → Has o.users.kept.kept k → bytes_eq u.digest k.1.digest ≡ true → (b : Bool) → bytes_eq k.1.name u.name ≡ b → bytes_eq u.name k.1.name ≡ true
      named k has_k tie true is = (bytes_eq-Decides u.name k.1.name).1 (sym ((bytes_eq-Decides k.1.name u.name).0 is))
      named k has_k tie false is =
          let there : t.users k.1.name ≡ Some k.1 =
          o.users_are k.1.name ∙ find_own is_named o.users.entries o.users.own_keys k.1.name k.1 (entry_at user_row (db.trees 1) o.users.entries o.users.kept k has_k) ((bytes_eq-Decides k.1.name k.1.name).1 refl) in
          let still : (with_user u t).users k.1.name ≡ Some k.1 = ap (λ b. cond b (Some u) (t.users k.1.name)) is ∙ there in
          let new : (with_user u t).users u.name ≡ Some u = ap (λ b. cond b (Some u) (t.users u.name)) ((bytes_eq-Decides u.name u.name).1 refl) in
          (bytes_eq-Decides u.name k.1.name).1 (own u.name k.1.name u k.1 new still ((bytes_eq-Decides u.digest k.1.digest).0 tie))

      alone : (i : Index) → Has office_schema.indexes i → guards i (users_table 1) ≡ true → (id : ℤ) (k : ℤ × UserRow) → Has o.users.kept.kept k
          → agree i.order i.columns (row_of user_row k) i.columns (row_of user_row (id, u)) ≡ true → bytes_eq u.name k.1.name ≡ true
      alone i known on id k has_k tie = elim (user_key_of i known on) [
        | inl key ↦ sym (name_agree u id k) ∙ sym (agree_at i (1 ∷ []) (row_of user_row k) (row_of user_row (id, u)) key) ∙ tie
        | inr key ↦ named k has_k (sym (token_agree u id k) ∙ sym (agree_at i (4 ∷ []) (row_of user_row k) (row_of user_row (id, u)) key) ∙ tie) (bytes_eq k.1.name u.name) refl
      ]

  -- ---- revisions

  abbrev Lacks : Type 0
  Lacks = HasLongRowid (db.trees 4)

  -- a row of the table is too big
  abbrev HasBig : Type 0
  HasBig = (row : Row) × Has (db.trees 4) row × IsBig row

  state_lacks : (sql : List ℕ) (params : Row) (one : IsOne office_schema sql params) (passes : Revision → Bool) (s : State) (tests : List Term)
      → Means office_schema sql (Update 2 (record { lets = []; body = plain_query (col 1 0 ∷ revisions.put_state s) tests 4 }))
      → IsSureQuery office_schema params (Select (record { lets = []; body = plain_query (col 1 0 ∷ revisions.put_state s) tests 4 }) [])
      → ((k : ℤ × Revision) → list_all (holds (params ∷ row_of revision_row k ∷ [])) tests ≡ passes k.1)
      → (w : Write) → (Lacks → LacksPlace w db Disk) → (HasBig → LacksPlace w db Full) → IsRefused g (record { sql = sql; params = params }) h e → LacksPlace w db (fault_of_error e)
  state_lacks sql params one passes s tests means sure tested w lacks big refused =
      said w _ _ lacks
      (λ b. big (row_of revision_row b.1.0, there b.1.0 b.1.1, revision_big (b.1.0.0, revisions.put_in s b.1.0.1) (subst (IsOversized office_schema (revisions_table 4)) b.1.2 b.2)))
      (update_refused office_schema 2 (revisions_table 4) free_revisions sql params one (state g h) (state g refused.0) e o.schema o.sound started unlimited refused.1 refused.2
      revision_row passes (revisions.put_in s) (revisions.put_state s) tests means sure tested (λ k. refl) (λ k. revisions.cast_kept (k.0, revisions.put_in s k.1)) (λ trees k. (refl, refl, refl))
      (λ i known on k r. keeps_key i (revision_key_of i known on) k r) o.revisions.entries o.revisions.kept)
    where
      there : (k : ℤ × Revision) → Has o.revisions.kept.kept k → Has (db.trees 4) (row_of revision_row k)
      there k has_k = subst (λ (rs : List Row). Has rs (row_of revision_row k)) (sym o.revisions.kept.rows_are) (mapped_has (row_of revision_row) o.revisions.kept.kept k has_k)

      keeps_key : (i : Index) → IsKey (1 ∷ 2 ∷ 3 ∷ []) i → (k : ℤ × Revision) (r : Row)
          → agree i.order i.columns r i.columns (row_of revision_row (k.0, revisions.put_in s k.1)) ≡ agree i.order i.columns r i.columns (row_of revision_row k)
      keeps_key i key k r = agree_at i (1 ∷ 2 ∷ 3 ∷ []) r (row_of revision_row (k.0, revisions.put_in s k.1)) key ∙ sym (agree_at i (1 ∷ 2 ∷ 3 ∷ []) r (row_of revision_row k) key)

  pub close_lacks : (p : ProfileName) (w : Write) → (Lacks → LacksPlace w db Disk) → (HasBig → LacksPlace w db Full) → IsRefused g (revisions.close_open p) h e → LacksPlace w db (fault_of_error e)
  close_lacks p = state_lacks CLOSE_OPEN.now (profile_params p) (one_close p) (is_in_state p Open) Closed (in_state_of Open) revisions.close_means (refl, refl, refl, refl) (state_tested p Open)

  pub replace_lacks : (p : ProfileName) (w : Write) → (Lacks → LacksPlace w db Disk) → (HasBig → LacksPlace w db Full) → IsRefused g (revisions.replace_issued p) h e → LacksPlace w db (fault_of_error e)
  replace_lacks p = state_lacks REPLACE_ISSUED.now (profile_params p) (one_replace p) (is_in_state p Issued) Replaced (in_state_of Issued) revisions.replace_means (refl, refl, refl, refl) (state_tested p Issued)

  pub issue_lacks : (p : ProfileName) (n : ℕ) (w : Write) → (Lacks → LacksPlace w db Disk) → (HasBig → LacksPlace w db Full) → IsRefused g (revisions.issue_revision p n) h e → LacksPlace w db (fault_of_error e)
  issue_lacks p n = state_lacks ISSUE_REVISION.now (revision_params p n) (one_issue p n) (revisions.at_key p n) Issued at_revision revisions.issue_means (refl, refl, refl, refl) (revision_tested p n)

  pub withdraw_lacks : (p : ProfileName) (n : ℕ) (w : Write) → (Lacks → LacksPlace w db Disk) → (HasBig → LacksPlace w db Full) → IsRefused g (revisions.withdraw_revision p n) h e → LacksPlace w db (fault_of_error e)
  withdraw_lacks p n = state_lacks WITHDRAW_REVISION.now (revision_params p n) (one_withdraw p n) (revisions.at_key p n) Withdrawn at_revision revisions.withdraw_means (refl, refl, refl, refl) (revision_tested p n)

  pub insert_revision_lacks : (p : ProfileName) (r : RevisionRow) → t.revisions p r.number ≡ None → IsRefused g (revisions.insert_revision (p, r)) h e → LacksPlace (adds_revision p r) db (fault_of_error e)
  insert_revision_lacks p r none refused =
      said (adds_revision p r) _ _ (λ lacks. lacks) (λ big. (Null ∷ revision_row (p, r), inl refl, revision_big (_, (p, r)) big))
      (insert_refused office_schema 2 (revisions_table 4) free_revisions INSERT_REVISION.now (revision_row (p, r)) (one_revision (p, r)) (state g h) (state g refused.0) e o.schema o.sound started unlimited refused.1 refused.2
      revision_row (p, r) revisions.insert_terms 8 (Null ∷ revision_row (p, r)) revisions.insert_means refl refl (revisions.cast_new (p, r)) (λ trees id. (refl, refl, refl)) alone)
    where
      alone : (i : Index) → Has office_schema.indexes i → guards i (revisions_table 4) ≡ true → (id : ℤ) (q : Row) → Has (db.trees 4) q → agree i.order i.columns q i.columns (row_of revision_row (id, (p, r))) ≡ true → ⊥
      alone i known on id q there tie =
          let k = elsewhere revision_row (db.trees 4) o.revisions.entries o.revisions.kept (revisions.at_key p r.number) (revisions.none_mapped g _ (sym (o.revisions_are p r.number) ∙ none)) q there in
          true≢false (sym tie ∙ agree_at i (1 ∷ 2 ∷ 3 ∷ []) q (row_of revision_row (id, (p, r))) (revision_key_of i known on)
          ∙ (λ u. agree plain (1 ∷ 2 ∷ 3 ∷ []) (k.1 u) (1 ∷ 2 ∷ 3 ∷ []) (row_of revision_row (id, (p, r)))) ∙ revision_agree (p, r) id k.0 ∙ k.2)

-- ---- the writes

module _ {S : Type 0} (g : Ghosts S) (h : Held S) (idle : IsIdle (state g h)) (t u : Tables) (o : IsOffice (state g h).now t) (own : HaveOwnTokens u) (e : Error) where
  abbrev start : Held S
  start = begun h

  lone : (w : Write) (s : Statement) → (IsRefused g s start e → LacksPlace w (state g start).now (fault_of_error e)) → RefusedIn g (s ∷ []) start e → RefusedForPlace g w (s ∷ []) start e
  lone w s lacks (inl refused) = inl (refused, lacks refused)
  lone w s lacks (inr (mid, count, ran, limit, none)) = absurd none

  -- two statements, the first of which makes these tables
  pair : (w : Write) (s r : Statement) (between : Tables) → IsStep g s t between → (IsRefused g s start e → LacksPlace w (state g start).now (fault_of_error e))
      → ((mid : Held S) → IsOffice (state g mid).now between → IsTrue (state g mid).in_transaction → (state g mid).step_limit ≡ None → IsRefused g r mid e → LacksPlace w (state g mid).now (fault_of_error e))
      → RefusedIn g (s ∷ r ∷ []) start e → RefusedForPlace g w (s ∷ r ∷ []) start e
  pair w s r between step first second (inl refused) = inl (refused, first refused)
  pair w s r between step first second (inr (mid, count, ran, limit, inl refused)) =
      inr (mid, count, ran, inl (refused, second mid (step.ok start mid count o ran.0) ran.1.mode (limit ∙ idle.unlimited) refused))
  pair w s r between step first second (inr (mid, count, ran, limit, inr (last, more, ran_too, stays, none))) = absurd none

  pub places : (w : Write) → Makes w t u → RefusedIn g (statements_of w) start e → RefusedForPlace g w (statements_of w) start e
  places (puts_user x) makes = lone (puts_user x) _ (put_user_lacks g start e t o refl idle.unlimited x (subst HaveOwnTokens makes own))
  places (adds_revision p r) makes =
      pair (adds_revision p r) _ _ (revisions.changed_by (revisions.closed g p) t) (revisions.close_step g p t)
      (close_lacks g start e t o refl idle.unlimited p (adds_revision p r) (λ long. inr (inr long)) (λ big. (big.0, inr big.1, big.2)))
      (λ mid office started unlimited. insert_revision_lacks g mid e _ office started unlimited p r (revisions.still_none g (is_profile p p) (t.revisions p r.number) makes.0))
  places (issues p n) makes =
      pair (issues p n) _ _ (revisions.changed_by (revisions.replaced g p) t) (revisions.replace_step g p t)
      (replace_lacks g start e t o refl idle.unlimited p (issues p n) (λ long. long) (λ big. big))
      (λ mid office started unlimited. issue_lacks g mid e _ office started unlimited p n (issues p n) (λ long. long) (λ big. big))
  places (withdraws p n) makes = lone (withdraws p n) _ (withdraw_lacks g start e t o refl idle.unlimited p n (withdraws p n) (λ long. long) (λ big. big))
  places (puts_vote v) makes = lone (puts_vote v) _ (put_vote_lacks g start e t o refl idle.unlimited v)
  places (puts_baseline p n) makes = lone (puts_baseline p n) _ (put_baseline_lacks g start e t o refl idle.unlimited p n)
  places (puts_hold p) makes =
      pair (puts_hold p) _ _ (without_hold p t) (other.delete_hold_step g p t) (λ refused. absurd (delete_hold_sure g start e t o refl idle.unlimited p refused))
      (λ mid office started unlimited. insert_hold_lacks g mid e _ office started unlimited p (ap (λ b. cond b false (t.holds p)) ((profiles_decide p p).1 refl)))
  places (deletes_hold p) makes = lone (deletes_hold p) _ (λ refused. absurd (delete_hold_sure g start e t o refl idle.unlimited p refused))

-- what SQLite refuses of a write has no place
pub refused_place : {S : Type 0} (g : Ghosts S) (h : Held S) (w : Write) (t u : Tables) (f : Fault) → Makes w t u → HaveOwnTokens u → IsIdle (state g h) → Shows (state g h) t
    → Refuses g (statements_of w) h f → LacksPlaceFor g w h f
refused_place g h w t u f makes own idle shows refused =
    record { error = refused.error; refused = places g h idle t u shows.office own refused.error w makes refused.refused; fault = refused.fault }

module _ {S : Type 0} (g : Ghosts S) (w : Write) where
  -- no lack of a place is told as one of the form of the tables
  never_unformed : (ss : List Statement) (h : Held S) (e : Error) → NotAnOffice ≡ fault_of_error e → RefusedForPlace g w ss h e → ⊥
  never_unformed [] h e is none = none
  never_unformed (s ∷ ss) h e is (inl refused) = subst (LacksPlace w (state g h).now) (sym is) refused.1
  never_unformed (s ∷ ss) h e is (inr (mid, count, ran, rest)) = never_unformed ss mid e is rest

  -- what kept a write from being committed, where it was no fault of the store
  pub stops_for : (h end : Held S) (t u : Tables) (f : Fault) → Makes w t u → HaveOwnTokens u → IsIdle (state g h) → Shows (state g h) t → IsCause g (statements_of w) h end f → Refuses g (statements_of w) h f
      → Stops g w h f
  stops_for h end t u (NoMemory _) makes own idle shows cause refused = (end, cause)
  stops_for h end t u Disk makes own idle shows cause refused = refused_place g h w t u Disk makes own idle shows refused
  stops_for h end t u Full makes own idle shows cause refused = refused_place g h w t u Full makes own idle shows refused
  stops_for h end t u NotAnOffice makes own idle shows cause refused =
      let lacks = refused_place g h w t u NotAnOffice makes own idle shows refused in never_unformed (statements_of w) (begun h) lacks.error lacks.fault lacks.refused
