-- What the read of the votes on a revision finds: each vote with the row of its voter.
use Rattle.std.proofs.Common.{◌≡◌, ◌≢◌, ◌<◌, ℕ, ℤ, pos, List, [], ◌∷◌, codes, map, flat_map, None, Some, Result, Option, IfOk, Bool, true, false, cond, Ordering, Less, Equal, refl, sym, ap, subst, ◌∙◌, arith, true≢false}
use Rattle.std.specs.Prelude.{◌&&◌, ◌==◌, bytes_eq, filter, find, option_map}
use Rattle.std.specs.List.{list_all, AllByRecursion}
use Rattle.std.specs.List.Sorted.{IsPermutation}
use Rattle.std.proofs.lemmas.Slice.Eq.{bytes_eq-Decides}
use Rattle.std.proofs.lemmas.List.Sorted.{IsPermutation-sym}
use Rattle.sqlite.specs.declared.types.Value.TheVariants.{Text, Int}
use Rattle.sqlite.specs.Order.{Row}
use Rattle.sqlite.specs.Ops.{binary}
use Rattle.sqlite.specs.Term.{Term, Env, lit, col, op2, eval, eval_all, holds}
use Rattle.sqlite.specs.Query.{Join, inner, left, end, matches}
use Rattle.sqlite.specs.Command.TheVariants.{Select}
use Rattle.sqlite.specs.Collation.TheVariants.{Binary}
use Rattle.sqlite.specs.State.{State, Shown}
use Rattle.sqlite.specs.Listing.{understood}
use Rattle.sqlite_tied.specs.Compute.{everything}
use Rattle.sqlite_sql.specs.declared.ops.BinaryOp.TheVariants.{Compare, Coalesce}
use Rattle.sqlite_sql.specs.declared.ops.CompareOp.TheVariants.{Eq}
use Rattle.sqlite_sql.proofs.GroupLemmas.{or_none, row_or_empty, left_last}
use Rattle.sqlite_value.specs.declared.keys.Key.{Key}
use Rattle.sqlite_value.specs.Keys.{ascending}
use Rattle.sqlite_trees.specs.Tree.{Trees}
use Rattle.sqlite_trees.proofs.ListLemmas.{map-map, flat_map-map, flat_map_same_on, ascending_weaker, ascending-map, ascending_from_map, all-map}
use Rattle.sqlite_rules.specs.Lists.{Has}
use Rattle.sqlite_rules.proofs.ListLemmas.{all_has, all_from, has_filtered, has_kept, has_found, has_contained, contains_had}
use Rattle.office_words.specs.declared.name.ProfileName.{ProfileName}
use Rattle.office_words.specs.declared.revision.VoteRow.{VoteRow}
use Rattle.office_words.specs.declared.row.UserRow.{UserRow}
use Rattle.office_words.specs.declared.fault.Fault.{Fault}
use Rattle.office_words.specs.Tables.{Tables, is_profile}
use Rattle.office_words.specs.Lists.{name_cmp, standing_vote, IsStanding, AreStanding}
use Rattle.office_rows.specs.Entries.{HaveOwnKeys, row_of}
use Rattle.office_rows.proofs.Rowids.{has_mapped, mapped_has, has_permuted}
use Rattle.office_rows.proofs.Plain.{Means}
use Rattle.office_rows.proofs.Stored.{find_own, find_none, none_found, own-filter}
use Rattle.office_rows.proofs.InOrder.{ordered_query, order_cmp, order_cmp_total, rises, ShowsInOrder}
use Rattle.office_rows.proofs.Asked.{entries_in_order}
use Rattle.office_store.specs.declared.standing_votes.TheConstants.{VOTES_ON}
use Rattle.office_store.specs.Schema.{office_schema}
use Rattle.office_store.specs.Entries.{is_named, user_row, IsUser, VoteKey, VoteEntry, same_vote, vote_row, IsVote, bit}
use Rattle.office_store.specs.Lists.{Cast, roles_of, cast_row, standing_of, IsCastForm, AreVoteRows}
use Rattle.office_store.specs.Shown.{Shows}
use Rattle.office_store.proofs.Columns.{both_true, text_is, number_is, one_is, three_are}
use Rattle.office_store.proofs.Kept.{some_shown}
use Rattle.office_store.specs.Keys.{revision_params}
use Rattle.office_store.proofs.Profiles.{at_revision}
use Rattle.office_store.proofs.UserReads.{found_formed}
use Rattle.office_store.proofs.ListReads.{list_read, HaveOwn, own_permuted, text_order, same_name, all_pairs, ascending_where}

-- ---- entries with keys of their own, in any order

module _ {K X : Type 0} (is_at : K → X → Bool) where
  found_permuted : (xs ys : List X) → IsPermutation xs ys → HaveOwnKeys is_at xs → (k : K) → find (is_at k) ys ≡ find (is_at k) xs
  found_permuted xs ys same own k = go (find (is_at k) xs) refl
    where
      go : (o : Option X) → find (is_at k) xs ≡ o → find (is_at k) ys ≡ o
      go (Some x) e =
          let it = has_found (is_at k) xs x e in
          find_own is_at ys (own_permuted is_at xs ys same own) k x (has_permuted xs ys x same it.0) it.1
      go None e = find_none (is_at k) ys (λ x h here. true≢false (sym here ∙ none_found (is_at k) xs e x (has_permuted ys xs x (IsPermutation-sym xs ys same) h)))

  -- at most one is at a key
  one_or_none : (xs : List X) → HaveOwnKeys is_at xs → (k : K) → or_none (filter (is_at k) xs) ≡ find (is_at k) xs ∷ []
  one_or_none [] own k = refl
  one_or_none (x ∷ xs) own k = go (is_at k x) refl (one_or_none xs own.1 k)
    where
      none_later : (ys : List X) → AllByRecursion (HaveOwn is_at x) ys → is_at k x ≡ true → filter (is_at k) ys ≡ []
      none_later [] all here = refl
      none_later (y ∷ ys) all here = (λ i. cond (all.0 k here i) (y ∷ filter (is_at k) ys) (filter (is_at k) ys)) ∙ none_later ys all.1 here

      go : (b : Bool) → is_at k x ≡ b → or_none (filter (is_at k) xs) ≡ find (is_at k) xs ∷ [] → or_none (cond b (x ∷ filter (is_at k) xs) (filter (is_at k) xs)) ≡ cond b (Some x) (find (is_at k) xs) ∷ []
      go true e more = ap (λ l. or_none (x ∷ l)) (none_later xs own.0 e)
      go false e more = more

found_mapped : {A B : Type 0} (f : A → B) (p : B → Bool) (xs : List A) → option_map f (find (λ x. p (f x)) xs) ≡ find p (map f xs)
found_mapped f p [] = refl
found_mapped f p (x ∷ xs) = go (p (f x)) (found_mapped f p xs)
  where
    go : (b : Bool) → option_map f (find (λ x. p (f x)) xs) ≡ find p (map f xs) → option_map f (cond b (Some x) (find (λ x. p (f x)) xs)) ≡ cond b (Some (f x)) (find p (map f xs))
    go true more = refl
    go false more = more

-- ---- the query

abbrev roles_column : Term
roles_column = op2 Coalesce (col 2 3) (lit (Int (pos 0)))

abbrev shown_columns : List Term
shown_columns = col 1 4 ∷ col 1 5 ∷ col 1 6 ∷ roles_column ∷ []

abbrev of_voter : List Term
of_voter = op2 (Compare Eq Binary) (col 2 1) (col 1 4) ∷ []

abbrev with_voter : Join
with_voter = inner 6 (left 1 of_voter end)

abbrev by_voter : List (Term × Key)
by_voter = (col 1 4, ascending Binary) ∷ []

abbrev names : List (List ℕ)
names = codes "voter" ∷ codes "approve" ∷ codes "security" ∷ codes "roles" ∷ []

votes_mean : Means office_schema VOTES_ON.now (Select (record { lets = []; body = ordered_query shown_columns at_revision with_voter by_voter }) names)
unfolding understood everything
votes_mean = record { is = refl; plain = (refl, refl); unlisted = refl }

abbrev key : VoteEntry → Row
key e = Text e.0.voter ∷ []

abbrev is_on : ProfileName → ℕ → VoteEntry → Bool
is_on p n e = is_profile p e.0.profile && (n == e.0.number)

-- a user's row, under its rowid
abbrev Kept : Type 0
Kept = ℤ × UserRow

abbrev vote_env : Row → (List ℕ → Option Kept) → ℤ × VoteEntry → Env
vote_env params user k = params ∷ row_of vote_row k ∷ row_or_empty (row_of user_row) (user k.1.0.voter) ∷ []

abbrev user_in : (List ℕ → Option Kept) → List ℕ → Option UserRow
user_in user name = option_map (λ k. k.1) (user name)

abbrev cast_by : (List ℕ → Option UserRow) → VoteEntry → Cast
cast_by user e = record { voter = e.0.voter; vote = e.1; user = user e.0.voter }

module _ (p : ProfileName) (n : ℕ) (user : List ℕ → Option Kept) where
  on_tested : (k : ℤ × VoteEntry) → list_all (holds (vote_env (revision_params p n) user k)) at_revision ≡ is_on p n k.1
  on_tested k = three_are _ _ _ _ _ _ (text_is k.1.0.profile.team p.team) (text_is k.1.0.profile.profile p.profile) (number_is k.1.0.number n)

  roles_shown : (votes : Row) (o : Option Kept) → eval roles_column (revision_params p n ∷ votes ∷ row_or_empty (row_of user_row) o ∷ []) ≡ Int (pos (roles_of (option_map (λ k. k.1) o)))
  unfolding binary
  roles_shown votes (Some k) = refl
  roles_shown votes None = refl

  cast_shown : (k : ℤ × VoteEntry) → eval_all shown_columns (vote_env (revision_params p n) user k) ≡ cast_row (cast_by (user_in user) k.1)
  cast_shown k = λ i. Text k.1.0.voter ∷ Int (bit k.1.1.approves) ∷ Int (bit k.1.1.security) ∷ roles_shown (row_of vote_row k) (user k.1.0.voter) i ∷ []

abbrev user_at : List ℕ → Kept → Bool
user_at name k = is_named name k.1

-- each vote is joined with the one row of its voter, or with none
module _ (db : Trees) (params : Row) (votes : List (ℤ × VoteEntry)) (users : List Kept) (votes_are : db 6 ≡ map (row_of vote_row) votes) (users_are : db 1 ≡ map (row_of user_row) users) (own : HaveOwnKeys user_at users) where
  abbrev voter_row : List ℕ → Option Kept
  voter_row name = find (user_at name) users

  abbrev env : ℤ × VoteEntry → Env
  env = vote_env params voter_row

  beside : (k : ℤ × VoteEntry) → matches db at_revision (left 1 of_voter end) (params ∷ row_of vote_row k ∷ []) ≡ cond (list_all (holds (env k)) at_revision) (env k ∷ []) []
  beside k =
      left_last db 1 (row_of user_row) users of_voter (user_at k.1.0.voter) at_revision (params ∷ row_of vote_row k ∷ []) users_are (λ u. one_is _ _ (text_is u.1.name k.1.0.voter))
      ∙ ap (λ l. filter (λ e. list_all (holds e) at_revision) (map (λ o. params ∷ row_of vote_row k ∷ row_or_empty (row_of user_row) o ∷ []) l)) (one_or_none user_at users own k.1.0.voter)

  joined : matches db at_revision with_voter (params ∷ []) ≡ flat_map (λ k. cond (list_all (holds (env k)) at_revision) (env k ∷ []) []) votes
  joined =
      ap (flat_map (λ r. matches db at_revision (left 1 of_voter end) (params ∷ r ∷ []))) votes_are
      ∙ flat_map-map (λ r. matches db at_revision (left 1 of_voter end) (params ∷ r ∷ [])) (row_of vote_row) votes
      ∙ flat_map_same_on _ _ beside votes

-- ---- the votes of an office

abbrev vote_at : VoteKey → VoteEntry → Bool
vote_at k e = same_vote k e.0

abbrev key_on : ProfileName → ℕ → List ℕ → VoteKey
key_on p n voter = record { profile = p; number = n; voter = voter }

on_key : (p : ProfileName) (n : ℕ) (e : VoteEntry) → is_on p n e ≡ true → vote_at (key_on p n e.0.voter) e ≡ true
on_key p n e on = λ i. on i && (bytes_eq-Decides e.0.voter e.0.voter).1 refl i

module _ (users : List ℕ → Option UserRow) where
  abbrev shown : VoteEntry → Row
  shown e = cast_row (cast_by users e)

  abbrev stands : VoteEntry → VoteRow
  stands e = standing_of (cast_by users e)

  abbrev cmp : VoteEntry → VoteEntry → Ordering
  cmp = order_cmp key shown by_voter

  own_apart : (p : ProfileName) (n : ℕ) (a b : VoteEntry) → is_on p n a ≡ true → is_on p n b ≡ true → HaveOwn vote_at a b → cmp a b ≢ Equal
  own_apart p n a b on_a on_b own tie =
      let same = same_name a.0.voter b.0.voter (sym (text_order a.0.voter b.0.voter) ∙ tie) in
      true≢false (sym (subst (λ v. vote_at (key_on p n v) b ≡ true) (sym same) (on_key p n b on_b)) ∙ own (key_on p n a.0.voter) (on_key p n a on_a))

roles_formed : (o : Option UserRow) → ((u : UserRow) → o ≡ Some u → IsUser u) → roles_of o < 64
roles_formed (Some u) formed = (formed u refl).roles
roles_formed None formed = omega arith

module _ (old new : State) (t : Tables) (shows : Shows old t) where
  abbrev entries : List VoteEntry
  entries = shows.office.votes.entries

  abbrev kept_users : List Kept
  kept_users = shows.office.users.kept.kept

  abbrev user_rows : List UserRow
  user_rows = map (λ (k : Kept). k.1) kept_users

  same_users : IsPermutation shows.office.users.entries user_rows
  same_users = IsPermutation-sym user_rows shows.office.users.entries shows.office.users.kept.same

  own_users : HaveOwnKeys user_at kept_users
  own_users = ascending_from_map (HaveOwn is_named) (λ (k : Kept). k.1) kept_users (own_permuted is_named shows.office.users.entries user_rows same_users shows.office.users.own_keys)

  user_is : (name : List ℕ) → user_in (λ name. find (user_at name) kept_users) name ≡ t.users name
  user_is name =
      found_mapped (λ (k : Kept). k.1) (is_named name) kept_users
      ∙ found_permuted is_named shows.office.users.entries user_rows same_users shows.office.users.own_keys name
      ∙ sym (shows.office.users_are name)

  vote_found : (p : ProfileName) (n : ℕ) (e : VoteEntry) → Has entries e → is_on p n e ≡ true → t.votes p n e.0.voter ≡ Some e.1
  vote_found p n e has on =
      shows.office.votes_are p n e.0.voter
      ∙ ap (option_map (λ (e : VoteEntry). e.1)) (find_own vote_at entries shows.office.votes.own_keys (key_on p n e.0.voter) e has (on_key p n e on))

  -- a vote on the revision stands
  makes_standing : (p : ProfileName) (n : ℕ) (e : VoteEntry) → Has entries e → is_on p n e ≡ true → IsStanding t p n (stands t.users e)
  makes_standing p n e has on = record { vote = e.1; there = vote_found p n e has on; stands = refl }

  -- a standing vote has an entry
  entry_of : (p : ProfileName) (n : ℕ) (row : VoteRow) → IsStanding t p n row → (e : VoteEntry) × Has entries e × (is_on p n e ≡ true) × (stands t.users e ≡ row)
  entry_of p n row standing =
      let it = some_shown (λ (e : VoteEntry). e.1) (find (vote_at (key_on p n row.voter)) entries) standing.vote (sym standing.there ∙ shows.office.votes_are p n row.voter) in
      let has = has_found (vote_at (key_on p n row.voter)) entries it.0 it.1 in
      let both = both_true (is_on p n it.0) (bytes_eq row.voter it.0.0.voter) has.1 in
      let voter = (bytes_eq-Decides row.voter it.0.0.voter).0 both.1 in (
        it.0,
        has.0,
        both.0,
        (λ i. standing_vote (sym voter i) (sym it.2 i) (t.users (sym voter i))) ∙ sym standing.stands,
      )

  vote_list : (p : ProfileName) (n : ℕ) (rows : List Row) → ShowsInOrder key (shown t.users) by_voter (filter (is_on p n) entries) rows → AreVoteRows t p n rows
  vote_list p n rows it =
      let cmp = order_cmp key (shown t.users) by_voter in
      let passed = filter (is_on p n) entries in
      let back = IsPermutation-sym passed it.from it.same in
      let all_on = all_from (λ e. is_on p n e ≡ true) it.from (λ e h. (has_filtered (is_on p n) entries e (has_permuted it.from passed e back h)).1) in
      let own = own_permuted vote_at passed it.from it.same (own-filter vote_at (is_on p n) entries shows.office.votes.own_keys) in
      let apart = ascending_where (λ e. is_on p n e ≡ true) (HaveOwn vote_at) (λ a b. cmp a b ≢ Equal) (own_apart t.users p n) it.from all_on own in
      let rising = rises cmp (order_cmp_total key (shown t.users) by_voter) it.from it.sorted apart in
      let standing : AreStanding t p n (map (stands t.users) it.from) = record {
        rising = all_pairs (λ a b. name_cmp a.voter b.voter ≡ Less) (map (stands t.users) it.from)
            (ascending-map (λ (a b : VoteRow). name_cmp a.voter b.voter ≡ Less) (stands t.users) it.from (ascending_weaker (λ a b. cmp a b ≡ Less) (λ a b. name_cmp a.0.voter b.0.voter ≡ Less) (λ a b less. sym (text_order a.0.voter b.0.voter) ∙ less) it.from rising));
        each = λ row there.
            let e = has_mapped (stands t.users) it.from row (has_contained (map (stands t.users) it.from) row there) in
            let kept = has_filtered (is_on p n) entries e.0 (has_permuted it.from passed e.0 back e.1) in
            subst (IsStanding t p n) (sym e.2) (makes_standing p n e.0 kept.0 kept.1);
        all = λ row standing.
            let e = entry_of p n row standing in
            let there = has_permuted passed it.from e.0 it.same (has_kept (is_on p n) entries e.0 e.1 e.2) in
            contains_had (map (stands t.users) it.from) row (subst (Has (map (stands t.users) it.from)) e.3 (mapped_has (stands t.users) it.from e.0 there));
      } in
      record {
        cast = map (cast_by t.users) it.from;
        rows_are = it.rows_are ∙ sym (map-map cast_row (cast_by t.users) it.from);
        standing = subst (AreStanding t p n) (sym (map-map standing_of (cast_by t.users) it.from)) standing;
        formed = all-map IsCastForm (cast_by t.users) it.from
            (all_from (λ e. IsCastForm (cast_by t.users e)) it.from
            (λ e h.
            let formed = all_has IsVote entries e shows.office.votes.formed (has_filtered (is_on p n) entries e (has_permuted it.from passed e back h)).0 in
            record { voter = formed.voter; roles = roles_formed (t.users e.0.voter) (found_formed old new t shows e.0.voter) }));
      }

  pub reads_votes : {X : Type 0} (items : X → List Row) (p : ProfileName) (n : ℕ) (r : Result X Fault) → IfOk r (λ x. Shown VOTES_ON.now (revision_params p n) old new (items x)) → IfOk r (λ x. AreVoteRows t p n (items x))
  reads_votes items p n =
      let o = shows.office in
      let user = λ (name : List ℕ). find (user_at name) kept_users in
      list_read _ VOTES_ON.now (revision_params p n) names votes_mean old new t shows items (AreVoteRows t p n)
      (λ rows a.
      vote_list p n rows
      (entries_in_order vote_row key (shown t.users) (is_on p n) shown_columns at_revision by_voter with_voter (revision_params p n) (vote_env (revision_params p n) user) (on_tested p n user)
      (λ k. cast_shown p n user k ∙ ap (λ u. cast_row (record { voter = k.1.0.voter; vote = k.1.1; user = u })) (user_is k.1.0.voter)) (λ k. refl) _ (old.now.trees 6) rows entries o.votes.kept a
      (a.grouped ∙ joined old.now.trees (revision_params p n) o.votes.kept.kept kept_users o.votes.kept.rows_are o.users.kept.rows_are own_users)))
