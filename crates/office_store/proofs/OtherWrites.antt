-- What the writes of votes, baselines and holds make of the tables.
use Rattle.std.proofs.Common.{◌≡◌, ℕ, ℤ, pos, List, [], ◌∷◌, Bool, true, false, cond, Option, None, Some, refl, sym, ap, ◌∙◌}
use Rattle.std.specs.Prelude.{bytes_eq, option_map, is_some}
use Rattle.std.proofs.lemmas.Slice.Eq.{bytes_eq-Decides}
use Rattle.sqlite.specs.declared.types.Value.TheVariants.{Null}
use Rattle.sqlite.specs.Term.{Term, lit, col}
use Rattle.sqlite.specs.Cast.{cast_row}
use Rattle.sqlite.specs.Store.{Ghosts}
use Rattle.sqlite.specs.Command.TheVariants.{Insert, InsertOr, Delete}
use Rattle.sqlite_schema.specs.declared.command.Conflict.TheVariants.{Abort}
use Rattle.sqlite_rules.specs.Keys.{conflicts}
use Rattle.sqlite_value.specs.Keys.{first_key}
use Rattle.sqlite.specs.Source.TheVariants.{Values}
use Rattle.sqlite.specs.Held.{state}
use Rattle.sqlite_tied.specs.Compute.{everything}
use Rattle.sqlite.specs.Listing.{understood}
use Rattle.office_words.specs.declared.name.ProfileName.{ProfileName}
use Rattle.office_words.specs.Tables.{Tables, Vote, Baseline, is_profile}
use Rattle.office_words.specs.Changes.{with_vote, with_baseline, with_hold, without_hold}
use Rattle.office_rows.specs.Entries.{row_of}
use Rattle.office_rows.specs.Statements.{Statement}
use Rattle.office_rows.proofs.Plain.{plain_query, Means}
use Rattle.office_rows.proofs.Failing.{delete_failed, insert_failed, upsert_failed}
use Rattle.office_rows.proofs.Steps.{removes, puts}
use Rattle.office_rows.proofs.Upserting.{upserted}
use Rattle.office_store.specs.declared.votes.TheConstants.{PUT_VOTE}
use Rattle.office_store.specs.declared.baselines.TheConstants.{PUT_BASELINE}
use Rattle.office_store.specs.declared.holds.TheConstants.{DELETE_HOLD, INSERT_HOLD}
use Rattle.office_store.specs.Schema.{office_schema, votes_table, baselines_table, holds_table}
use Rattle.office_store.specs.Entries.{IsProfileName, VoteKey, VoteEntry, same_vote, vote_row, IsVote, BaselineEntry, baseline_entry, baseline_row, IsBaseline, hold_row, bit}
use Rattle.office_store.specs.Steps.{IsStep, AreSteps}
use Rattle.office_store.proofs.Columns.{column_is, text_is, number_is, rowid_is, one_is, four_are, or_false, cast_null, cast_int}
use Rattle.office_store.proofs.Lenses.{is_votes, is_baselines, is_holds, with_votes, with_baselines, with_holds}
use Rattle.office_store.specs.Keys.{profile_params}
use Rattle.office_store.proofs.Profiles.{at_profile, hold_tested, profiles_decide, votes_decide}

map_with : {X V : Type 0} (value : X → V) (b : Bool) (x : X) (o : Option X) → cond b (Some (value x)) (option_map value o) ≡ option_map value (cond b (Some x) o)
map_with value true x o = refl
map_with value false x o = refl

-- ---- votes

abbrev pub vote_terms : List Term
vote_terms = lit Null ∷ col 0 0 ∷ col 0 1 ∷ col 0 2 ∷ col 0 3 ∷ col 0 4 ∷ col 0 5 ∷ []

-- the columns of the voter's row, where there is one
abbrev pub vote_columns : List Term
vote_columns = col 1 0 ∷ col 1 1 ∷ col 1 2 ∷ col 1 3 ∷ col 1 4 ∷ col 0 4 ∷ col 0 5 ∷ []

pub put_vote_means : Means office_schema PUT_VOTE.now (InsertOr 3 Abort (Values vote_terms 7)
    (record { target = Some (1 ∷ 2 ∷ 3 ∷ 4 ∷ []); update = Some (record { lets = []; body = plain_query (col 1 0 ∷ vote_columns) (column_is 0 6 ∷ []) 6 }) } ∷ []))
unfolding understood everything
put_vote_means = record { is = refl; plain = (refl, refl); unlisted = refl }

abbrev pub put_vote : VoteEntry → Statement
put_vote e = record { sql = PUT_VOTE.now; params = vote_row e }

pub cast_vote : (e : VoteEntry) → cast_row (votes_table 6) (Null ∷ vote_row e) ≡ Null ∷ vote_row e
cast_vote e = rw (cast_null, cast_int (pos e.0.number), cast_int (bit e.1.approves), cast_int (bit e.1.security))

abbrev key_of : ProfileName → ℕ → List ℕ → VoteKey
key_of p n voter = record { profile = p; number = n; voter = voter }

abbrev vote_put : VoteEntry → Tables → Tables
vote_put e t = record t { votes = λ q n name. cond (same_vote (key_of q n name) e.0) (Some e.1) (t.votes q n name) }

abbrev pub vote_key : VoteEntry → VoteKey
vote_key e = e.0

abbrev vote_of : VoteEntry → Vote
vote_of e = e.1

pub cast_voted : (id : ℤ) (e : VoteEntry) → cast_row (votes_table 6) (row_of vote_row (id, e)) ≡ row_of vote_row (id, e)
cast_voted id e = rw (cast_int id, cast_int (pos e.0.number), cast_int (bit e.1.approves), cast_int (bit e.1.security))

pub vote_agrees : (e : VoteEntry) (id : ℤ) (k : ℤ × VoteEntry)
    → conflicts (Some (1 ∷ 2 ∷ 3 ∷ 4 ∷ [])) office_schema.indexes (votes_table 6) (row_of vote_row (id, e)) (row_of vote_row k) ≡ same_vote e.0 k.1.0
unfolding first_key
vote_agrees e id k =
    or_false _
    ∙ four_are _ _ _ _ _ _ _ _ (text_is k.1.0.profile.team e.0.profile.team) (text_is k.1.0.profile.profile e.0.profile.profile) (number_is k.1.0.number e.0.number) (text_is k.1.0.voter e.0.voter)

-- ---- baselines

abbrev pub baseline_terms : List Term
baseline_terms = lit Null ∷ col 0 0 ∷ col 0 1 ∷ col 0 2 ∷ []

-- the columns of the team's row, where there is one
abbrev pub baseline_columns : List Term
baseline_columns = col 1 0 ∷ col 1 1 ∷ col 0 1 ∷ col 0 2 ∷ []

pub put_baseline_means : Means office_schema PUT_BASELINE.now (InsertOr 4 Abort (Values baseline_terms 4)
    (record { target = Some (1 ∷ []); update = Some (record { lets = []; body = plain_query (col 1 0 ∷ baseline_columns) (column_is 0 3 ∷ []) 8 }) } ∷ []))
unfolding understood everything
put_baseline_means = record { is = refl; plain = (refl, refl); unlisted = refl }

abbrev pub put_baseline : BaselineEntry → Statement
put_baseline e = record { sql = PUT_BASELINE.now; params = baseline_row e }

pub cast_baseline : (e : BaselineEntry) → cast_row (baselines_table 8) (Null ∷ baseline_row e) ≡ Null ∷ baseline_row e
cast_baseline e = rw (cast_null, cast_int (pos e.1.number))

abbrev baseline_put : BaselineEntry → Tables → Tables
baseline_put e t = record t { baselines = λ other. cond (bytes_eq other e.0) (Some e.1) (t.baselines other) }

abbrev pub baseline_key : BaselineEntry → List ℕ
baseline_key e = e.0

abbrev baseline_of : BaselineEntry → Baseline
baseline_of e = e.1

pub cast_adopted : (id : ℤ) (e : BaselineEntry) → cast_row (baselines_table 8) (row_of baseline_row (id, e)) ≡ row_of baseline_row (id, e)
cast_adopted id e = rw (cast_int id, cast_int (pos e.1.number))

pub baseline_agrees : (e : BaselineEntry) (id : ℤ) (k : ℤ × BaselineEntry)
    → conflicts (Some (1 ∷ [])) office_schema.indexes (baselines_table 8) (row_of baseline_row (id, e)) (row_of baseline_row k) ≡ bytes_eq e.0 k.1.0
unfolding first_key
baseline_agrees e id k = or_false _ ∙ one_is _ _ (text_is k.1.0 e.0)

-- ---- holds

pub delete_hold_means : Means office_schema DELETE_HOLD.now (Delete 5 (record { lets = []; body = plain_query (col 1 0 ∷ []) at_profile 10 }))
unfolding understood everything
delete_hold_means = record { is = refl; plain = (refl, refl); unlisted = refl }

abbrev pub hold_terms : List Term
hold_terms = lit Null ∷ col 0 0 ∷ col 0 1 ∷ []

pub insert_hold_means : Means office_schema INSERT_HOLD.now (Insert 5 (Values hold_terms 3))
unfolding understood everything
insert_hold_means = record { is = refl; plain = (refl, refl); unlisted = refl }

abbrev pub delete_hold : ProfileName → Statement
delete_hold p = record { sql = DELETE_HOLD.now; params = profile_params p }

abbrev pub insert_hold : ProfileName → Statement
insert_hold p = record { sql = INSERT_HOLD.now; params = hold_row p }

pub cast_hold : (p : ProfileName) → cast_row (holds_table 10) (Null ∷ hold_row p) ≡ Null ∷ hold_row p
cast_hold p = rw cast_null

abbrev itself : ProfileName → ProfileName
itself p = p

holds_without : (b : Bool) (o : Option ProfileName) → cond b false (is_some o) ≡ is_some (cond b None o)
holds_without true o = refl
holds_without false o = refl

holds_with : (b : Bool) (p : ProfileName) (o : Option ProfileName) → cond b true (is_some o) ≡ is_some (cond b (Some p) o)
holds_with true p o = refl
holds_with false p o = refl

pub none_held : (o : Option ProfileName) → is_some o ≡ false → o ≡ None
none_held None none = refl
none_held (Some p) none = absurd cc

held_twice : (b c x : Bool) → cond b true (cond b c x) ≡ cond b true x
held_twice true c x = refl
held_twice false c x = refl

module _ {S : Type 0} (g : Ghosts S) where
  put_vote_step : (e : VoteEntry) (t : Tables) → IsVote e → IsStep g (put_vote e) t (vote_put e t)
  put_vote_step e t formed = record {
    ok = λ old new count o ran.
        let it = upserted office_schema 3 (votes_table 6) is_votes PUT_VOTE.now (vote_row e) (state g old) (state g new) count o.schema ran same_vote votes_decide vote_key vote_row IsVote o.votes
        e formed (λ k. (k.0, e.1)) (λ k same i. (same i, e.1)) vote_terms 7 (Null ∷ vote_row e) (1 ∷ 2 ∷ 3 ∷ 4 ∷ []) vote_columns (column_is 0 6 ∷ []) put_vote_means refl (cast_vote e)
        (λ id. cast_voted id e) (vote_agrees e) (λ id more k. one_is _ _ (rowid_is k.0 id)) (λ id more k. refl) in
        with_votes (state g old).now (state g new).now t o it.writes it.left _
        (λ q n name. ap (cond (same_vote (key_of q n name) e.0) (Some e.1)) (o.votes_are q n name) ∙ map_with vote_of (same_vote (key_of q n name) e.0) e _ ∙ sym (ap (option_map vote_of) (it.are (key_of q n name))));
    err = λ old new x o failed. upsert_failed PUT_VOTE.now (vote_row e) 3 _ _ office_schema (state g old) (state g new) x o.schema put_vote_means failed;
  }

  pub vote_steps : (e : VoteEntry) (t : Tables) → IsVote e → AreSteps g (put_vote e ∷ []) t (with_vote e.0.profile e.0.number e.0.voter e.1 t)
  vote_steps e t formed = (vote_put e t, put_vote_step e t formed, refl)

  put_baseline_step : (e : BaselineEntry) (t : Tables) → IsBaseline e → IsStep g (put_baseline e) t (baseline_put e t)
  put_baseline_step e t formed = record {
    ok = λ old new count o ran.
        let it = upserted office_schema 4 (baselines_table 8) is_baselines PUT_BASELINE.now (baseline_row e) (state g old) (state g new) count o.schema ran bytes_eq bytes_eq-Decides baseline_key baseline_row IsBaseline o.baselines
        e formed (λ k. (k.0, e.1)) (λ k same i. (same i, e.1)) baseline_terms 4 (Null ∷ baseline_row e) (1 ∷ []) baseline_columns (column_is 0 3 ∷ []) put_baseline_means refl (cast_baseline e)
        (λ id. cast_adopted id e) (baseline_agrees e) (λ id more k. one_is _ _ (rowid_is k.0 id)) (λ id more k. refl) in
        with_baselines (state g old).now (state g new).now t o it.writes it.left _
        (λ other. ap (cond (bytes_eq other e.0) (Some e.1)) (o.baselines_are other) ∙ map_with baseline_of (bytes_eq other e.0) e _ ∙ sym (ap (option_map baseline_of) (it.are other)));
    err = λ old new x o failed. upsert_failed PUT_BASELINE.now (baseline_row e) 4 _ _ office_schema (state g old) (state g new) x o.schema put_baseline_means failed;
  }

  pub baseline_steps : (p : ProfileName) (n : ℕ) (t : Tables) → IsBaseline (baseline_entry p n) → AreSteps g (put_baseline (baseline_entry p n) ∷ []) t (with_baseline p n t)
  baseline_steps p n t formed = (baseline_put (baseline_entry p n) t, put_baseline_step (baseline_entry p n) t formed, refl)

  pub delete_hold_step : (p : ProfileName) (t : Tables) → IsStep g (delete_hold p) t (without_hold p t)
  delete_hold_step p t = record {
    ok = λ old new count o ran.
        let it = removes is_profile profiles_decide itself hold_row IsProfileName office_schema 5 (holds_table 10) is_holds DELETE_HOLD.now (profile_params p) (state g old) (state g new) count o.schema ran o.holds
        p at_profile delete_hold_means (hold_tested p) in
        with_holds (state g old).now (state g new).now t o it.writes it.left _
        (λ q. ap (cond (is_profile q p) false) (o.holds_are q) ∙ holds_without (is_profile q p) _ ∙ sym (ap is_some (it.are q)));
    err = λ old new e o failed. delete_failed DELETE_HOLD.now (profile_params p) 5 _ office_schema (state g old) (state g new) e o.schema delete_hold_means failed;
  }

  pub insert_hold_step : (p : ProfileName) (t : Tables) → IsProfileName p → t.holds p ≡ false → IsStep g (insert_hold p) t (with_hold p t)
  insert_hold_step p t formed none = record {
    ok = λ old new count o ran.
        let it = puts is_profile profiles_decide itself hold_row IsProfileName office_schema 5 (holds_table 10) is_holds INSERT_HOLD.now (hold_row p) (state g old) (state g new) count o.schema ran o.holds
        p formed (none_held _ (sym (o.holds_are p) ∙ none)) hold_terms 3 (Null ∷ hold_row p) insert_hold_means refl (cast_hold p) in
        with_holds (state g old).now (state g new).now t o it.writes it.left _
        (λ q. ap (cond (is_profile q p) true) (o.holds_are q) ∙ holds_with (is_profile q p) p _ ∙ sym (ap is_some (it.are q)));
    err = λ old new x o failed. insert_failed INSERT_HOLD.now (hold_row p) 5 _ office_schema (state g old) (state g new) x o.schema insert_hold_means failed;
  }

  pub unhold_steps : (p : ProfileName) (t : Tables) → AreSteps g (delete_hold p ∷ []) t (without_hold p t)
  unhold_steps p t = (without_hold p t, delete_hold_step p t, refl)

  pub hold_steps : (p : ProfileName) (t : Tables) → IsProfileName p → AreSteps g (delete_hold p ∷ insert_hold p ∷ []) t (with_hold p t)
  hold_steps p t formed =
      let gone : (without_hold p t).holds p ≡ false = ap (λ b. cond b false (t.holds p)) ((profiles_decide p p).1 refl) in (
        without_hold p t,
        delete_hold_step p t,
        (
          with_hold p (without_hold p t),
          insert_hold_step p (without_hold p t) formed gone,
          λ i. record t { holds = λ q. held_twice (is_profile q p) false (t.holds q) i },
        ),
      )
