-- At which key the tables of two offices differ.
use Rattle.std.proofs.Common.{◌≡◌, ℕ, ℤ, pos, List, [], ◌∷◌, map, Option, None, Some, Ordering, Less, Equal, Greater, refl, sym, ap, subst, ◌∙◌, arith}
use Rattle.std.specs.Prelude.{bytes_eq, find, option_map, is_some}
use Rattle.std.specs.Ordering.{int_cmp, ordering_then}
use Rattle.std.proofs.lemmas.Bool.Decides.{nat_tests}
use Rattle.std.proofs.lemmas.Slice.Eq.{bytes_eq-Decides}
use Rattle.sqlite.specs.declared.types.Value.TheVariants.{Int, Text}
use Rattle.sqlite.specs.Effect.{Database}
use Rattle.sqlite.specs.Order.{Row}
use Rattle.sqlite.specs.Term.{eval_all}
use Rattle.sqlite_sql.specs.Ops.{binary}
use Rattle.sqlite_value.specs.Order.{column, value_cmp}
use Rattle.sqlite_value.proofs.OrderLemmas.{value_cmp-Int, value_cmp-Text}
use Rattle.office_words.specs.declared.name.ProfileName.{ProfileName}
use Rattle.office_words.specs.declared.row.UserRow.{UserRow}
use Rattle.office_words.specs.Tables.{Tables, is_profile}
use Rattle.office_rows.specs.Entries.{row_of}
use Rattle.office_rows.proofs.InOrder.{order_cmp}
use Rattle.office_store.specs.Entries.{BaselineEntry, IsBaseline, IsProfileName, IsRevision, IsUser, IsVote, Revision, VoteEntry, VoteKey, baseline_row, hold_row, revision_key, revision_row, same_revision, same_vote, user_row, vote_key as vote_key_of, vote_row}
use Rattle.office_store.specs.Shown.{IsOffice}
use Rattle.office_store.proofs.ListReads.{same_name}
use Rattle.office_store.proofs.Profiles.{profiles_decide, revisions_decide, votes_decide}
use Rattle.journal_faults.specs.declared.difference.Difference.{Difference}
use Rattle.journal_faults.specs.declared.difference.Difference.TheVariants as difference
use Rattle.journal_faults.specs.declared.table.Table.TheVariants as table
use Rattle.journal_verification.specs.Different.{DifferAt}
use Rattle.journal_verification.specs.Differing.{columns_cmp}
use Rattle.journal_verification.specs.Named.{IsKeyOf}
use Rattle.journal_verification.specs.Texts.{key_width}
use Rattle.journal_verification.proofs.Telling.{IsOnlyIn, differ_at}
use Rattle.journal_verification.proofs.Queries.{columns_of, order_of}

both_tied : (o p : Ordering) → ordering_then o p ≡ Equal → (o ≡ Equal) × (p ≡ Equal)
both_tied Less p e = absurd cc
both_tied Equal p e = (refl, e)
both_tied Greater p e = absurd cc

text_tied : (a b : List ℕ) (rest : Ordering) → ordering_then (value_cmp (Text a) (Text b)) rest ≡ Equal → (a ≡ b) × (rest ≡ Equal)
text_tied a b rest tie = let both = both_tied (value_cmp (Text a) (Text b)) rest tie in (same_name a b (sym (value_cmp-Text a b) ∙ both.0), both.1)

same_number : (m n : ℕ) → int_cmp (pos m) (pos n) ≡ Equal → m ≡ n
same_number m n tie = grind (arith, nat_tests)

number_tied : (m n : ℕ) (rest : Ordering) → ordering_then (value_cmp (Int (pos m)) (Int (pos n))) rest ≡ Equal → (m ≡ n) × (rest ≡ Equal)
number_tied m n rest tie = let both = both_tied (value_cmp (Int (pos m)) (Int (pos n))) rest tie in (same_number m n (sym (value_cmp-Int (pos m) (pos n)) ∙ both.0), both.1)

-- ---- users

abbrev pub user_key : UserRow → List ℕ
user_key e = e.name

abbrev pub user_keyed : UserRow → Row
user_keyed = λ e. Text e.name ∷ []

pub user_showed : (k : ℤ × UserRow) → eval_all (columns_of table.Users) ([] ∷ row_of user_row k ∷ []) ≡ user_row k.1
user_showed k = refl

pub user_sorts : (k : ℤ × UserRow) → eval_all (map (λ o. o.0) (order_of table.Users)) ([] ∷ row_of user_row k ∷ []) ≡ user_keyed k.1
unfolding binary
user_sorts k = refl

pub user_tied : (a b : UserRow) → order_cmp user_keyed user_row (order_of table.Users) a b ≡ Equal → user_key a ≡ user_key b
user_tied a b tie =
    (text_tied a.name b.name _ tie).0

pub user_columns : (a b : UserRow) → columns_cmp (key_width table.Users) (user_row a) (user_row b) ≡ order_cmp user_keyed user_row (order_of table.Users) a b
user_columns a b = refl

-- ---- revisions

abbrev pub revision_keyed : Revision → Row
revision_keyed = λ e. Text e.0.team ∷ Text e.0.profile ∷ Int (pos e.1.number) ∷ []

pub revision_showed : (k : ℤ × Revision) → eval_all (columns_of table.Revisions) ([] ∷ row_of revision_row k ∷ []) ≡ revision_row k.1
revision_showed k = refl

pub revision_sorts : (k : ℤ × Revision) → eval_all (map (λ o. o.0) (order_of table.Revisions)) ([] ∷ row_of revision_row k ∷ []) ≡ revision_keyed k.1
unfolding binary
revision_sorts k = refl

pub revision_tied : (a b : Revision) → order_cmp revision_keyed revision_row (order_of table.Revisions) a b ≡ Equal → revision_key a ≡ revision_key b
revision_tied a b tie =
    let team = text_tied a.0.team b.0.team _ tie in
    let profile = text_tied a.0.profile b.0.profile _ team.1 in
    let number = number_tied a.1.number b.1.number _ profile.1 in
    λ i. (record { team = team.0 i; profile = profile.0 i }, number.0 i)

pub revision_columns : (a b : Revision) → columns_cmp (key_width table.Revisions) (revision_row a) (revision_row b) ≡ order_cmp revision_keyed revision_row (order_of table.Revisions) a b
revision_columns a b = refl

-- ---- votes

abbrev pub vote_key : VoteEntry → VoteKey
vote_key e = e.0

abbrev pub vote_keyed : VoteEntry → Row
vote_keyed = λ e. Text e.0.profile.team ∷ Text e.0.profile.profile ∷ Int (pos e.0.number) ∷ Text e.0.voter ∷ []

pub vote_showed : (k : ℤ × VoteEntry) → eval_all (columns_of table.Votes) ([] ∷ row_of vote_row k ∷ []) ≡ vote_row k.1
vote_showed k = refl

pub vote_sorts : (k : ℤ × VoteEntry) → eval_all (map (λ o. o.0) (order_of table.Votes)) ([] ∷ row_of vote_row k ∷ []) ≡ vote_keyed k.1
unfolding binary
vote_sorts k = refl

pub vote_tied : (a b : VoteEntry) → order_cmp vote_keyed vote_row (order_of table.Votes) a b ≡ Equal → vote_key a ≡ vote_key b
vote_tied a b tie =
    let team = text_tied a.0.profile.team b.0.profile.team _ tie in
    let profile = text_tied a.0.profile.profile b.0.profile.profile _ team.1 in
    let number = number_tied a.0.number b.0.number _ profile.1 in
    let voter = text_tied a.0.voter b.0.voter _ number.1 in
    λ i. record { profile = record { team = team.0 i; profile = profile.0 i }; number = number.0 i; voter = voter.0 i }

pub vote_columns : (a b : VoteEntry) → columns_cmp (key_width table.Votes) (vote_row a) (vote_row b) ≡ order_cmp vote_keyed vote_row (order_of table.Votes) a b
vote_columns a b = refl

-- ---- baselines

abbrev pub baseline_key : BaselineEntry → List ℕ
baseline_key e = e.0

abbrev pub baseline_keyed : BaselineEntry → Row
baseline_keyed = λ e. Text e.0 ∷ []

pub baseline_showed : (k : ℤ × BaselineEntry) → eval_all (columns_of table.Baselines) ([] ∷ row_of baseline_row k ∷ []) ≡ baseline_row k.1
baseline_showed k = refl

pub baseline_sorts : (k : ℤ × BaselineEntry) → eval_all (map (λ o. o.0) (order_of table.Baselines)) ([] ∷ row_of baseline_row k ∷ []) ≡ baseline_keyed k.1
unfolding binary
baseline_sorts k = refl

pub baseline_tied : (a b : BaselineEntry) → order_cmp baseline_keyed baseline_row (order_of table.Baselines) a b ≡ Equal → baseline_key a ≡ baseline_key b
baseline_tied a b tie =
    (text_tied a.0 b.0 _ tie).0

pub baseline_columns : (a b : BaselineEntry) → columns_cmp (key_width table.Baselines) (baseline_row a) (baseline_row b) ≡ order_cmp baseline_keyed baseline_row (order_of table.Baselines) a b
baseline_columns a b = refl

-- ---- holds

abbrev pub hold_key : ProfileName → ProfileName
hold_key e = e

abbrev pub hold_keyed : ProfileName → Row
hold_keyed = λ e. Text e.team ∷ Text e.profile ∷ []

pub hold_showed : (k : ℤ × ProfileName) → eval_all (columns_of table.Holds) ([] ∷ row_of hold_row k ∷ []) ≡ hold_row k.1
hold_showed k = refl

pub hold_sorts : (k : ℤ × ProfileName) → eval_all (map (λ o. o.0) (order_of table.Holds)) ([] ∷ row_of hold_row k ∷ []) ≡ hold_keyed k.1
unfolding binary
hold_sorts k = refl

pub hold_tied : (a b : ProfileName) → order_cmp hold_keyed hold_row (order_of table.Holds) a b ≡ Equal → hold_key a ≡ hold_key b
hold_tied a b tie =
    let team = text_tied a.team b.team _ tie in
    let profile = text_tied a.profile b.profile _ team.1 in
    λ i. record { team = team.0 i; profile = profile.0 i }

pub hold_columns : (a b : ProfileName) → columns_cmp (key_width table.Holds) (hold_row a) (hold_row b) ≡ order_cmp hold_keyed hold_row (order_of table.Holds) a b
hold_columns a b = refl

-- ---- what a difference names

text_is : (row row2 : Row) (at : ℕ) (a b : List ℕ) → row ≡ row2 → column row2 at ≡ Text a → column row at ≡ Text b → a ≡ b
text_is row row2 at a b is first second = let k : Text a ≡ Text b = sym first ∙ sym (ap (λ (r : Row). column r at) is) ∙ second in let e : a ≡ b = cc in e

number_of : (row row2 : Row) (at : ℕ) (a b : ℕ) → row ≡ row2 → column row2 at ≡ Int (pos a) → column row at ≡ Int (pos b) → a ≡ b
number_of row row2 at a b is first second = let k : Int (pos a) ≡ Int (pos b) = sym first ∙ sym (ap (λ (r : Row). column r at) is) ∙ second in let e : a ≡ b = cc in e

both_there : (a b : Option ProfileName) → is_some a ≡ is_some b → ◌≡◌ {A = Option (Unit {0})} (option_map (λ _. tt) a) (option_map (λ _. tt) b)
both_there None None e = refl
both_there None (Some y) e = absurd cc
both_there (Some x) None e = absurd cc
both_there (Some x) (Some y) e = refl

module _ (a b : Database) (t u : Tables) (o : IsOffice a t) (p : IsOffice b u) (row : Row) (only : IsOnlyIn user_row o.users.entries p.users.entries row) where
  pub user_named : (d : Difference) → IsKeyOf table.Users row d → DifferAt t u d
  user_named difference.Schema h = absurd h
  user_named difference.Line h = absurd h
  user_named difference.Office h = absurd cc
  user_named (difference.User name) h = λ equal.
      let name_is = text_is row (user_row only.entry) 0 only.entry.name name only.row_is refl h.1 in
      differ_at user_row user_keyed bytes_eq bytes_eq-Decides user_key IsUser table.Users user_showed user_sorts user_tied user_columns (λ e. e) (λ a b k v. v) _ _ o.users p.users row only
      (ap (option_map (λ (e : UserRow). e))
      (subst (λ n. find (λ (e : UserRow). bytes_eq n e.name) o.users.entries ≡ find (λ (e : UserRow). bytes_eq n e.name) p.users.entries) (sym name_is)
      (sym (o.users_are name) ∙ equal ∙ p.users_are name)))
  user_named (difference.Revision p number) h = absurd (let k = h.0 in cc)
  user_named (difference.Vote p number voter) h = absurd (let k = h.0 in cc)
  user_named (difference.Baseline team) h = absurd (let k = h.0 in cc)
  user_named (difference.Hold p) h = absurd (let k = h.0 in cc)
  user_named (difference.Row s) h = tt

module _ (a b : Database) (t u : Tables) (o : IsOffice a t) (p : IsOffice b u) (row : Row) (only : IsOnlyIn revision_row o.revisions.entries p.revisions.entries row) where
  pub revision_named : (d : Difference) → IsKeyOf table.Revisions row d → DifferAt t u d
  revision_named difference.Schema h = absurd h
  revision_named difference.Line h = absurd h
  revision_named difference.Office h = absurd cc
  revision_named (difference.User name) h = absurd (let k = h.0 in cc)
  revision_named (difference.Revision named number) h = λ equal.
      let team_is = text_is row (revision_row only.entry) 0 only.entry.0.team named.team only.row_is refl h.1.0 in
      let profile_is = text_is row (revision_row only.entry) 1 only.entry.0.profile named.profile only.row_is refl h.1.1 in
      let number_is = number_of row (revision_row only.entry) 2 only.entry.1.number number only.row_is refl h.2 in
      let key_is : ◌≡◌ {A = ProfileName × ℕ} (revision_key only.entry) (named, number) = λ i. (record { team = team_is i; profile = profile_is i }, number_is i) in
      differ_at revision_row revision_keyed same_revision revisions_decide revision_key IsRevision table.Revisions revision_showed revision_sorts revision_tied revision_columns (λ e. e.1) (λ a b k v i. (ap (λ (q : ProfileName × ℕ). q.0) k i, v i)) _ _ o.revisions p.revisions row only
      (subst (λ k. option_map (λ (e : Revision). e.1) (find (λ (e : Revision). same_revision k (revision_key e)) o.revisions.entries) ≡ option_map (λ (e : Revision). e.1) (find (λ (e : Revision). same_revision k (revision_key e)) p.revisions.entries)) (sym key_is)
      (sym (o.revisions_are named number) ∙ equal ∙ p.revisions_are named number))
  revision_named (difference.Vote p number voter) h = absurd (let k = h.0 in cc)
  revision_named (difference.Baseline team) h = absurd (let k = h.0 in cc)
  revision_named (difference.Hold p) h = absurd (let k = h.0 in cc)
  revision_named (difference.Row s) h = tt

module _ (a b : Database) (t u : Tables) (o : IsOffice a t) (p : IsOffice b u) (row : Row) (only : IsOnlyIn vote_row o.votes.entries p.votes.entries row) where
  pub vote_named : (d : Difference) → IsKeyOf table.Votes row d → DifferAt t u d
  vote_named difference.Schema h = absurd h
  vote_named difference.Line h = absurd h
  vote_named difference.Office h = absurd cc
  vote_named (difference.User name) h = absurd (let k = h.0 in cc)
  vote_named (difference.Revision p number) h = absurd (let k = h.0 in cc)
  vote_named (difference.Vote named number voter) h = λ equal.
      let team_is = text_is row (vote_row only.entry) 0 only.entry.0.profile.team named.team only.row_is refl h.1.0 in
      let profile_is = text_is row (vote_row only.entry) 1 only.entry.0.profile.profile named.profile only.row_is refl h.1.1 in
      let number_is = number_of row (vote_row only.entry) 2 only.entry.0.number number only.row_is refl h.2 in
      let voter_is = text_is row (vote_row only.entry) 3 only.entry.0.voter voter only.row_is refl h.3 in
      let key_is : only.entry.0 ≡ vote_key_of named number voter = λ i. record { profile = record { team = team_is i; profile = profile_is i }; number = number_is i; voter = voter_is i } in
      differ_at vote_row vote_keyed same_vote votes_decide vote_key IsVote table.Votes vote_showed vote_sorts vote_tied vote_columns (λ e. e.1) (λ a b k v i. (k i, v i)) _ _ o.votes p.votes row only
      (subst (λ k. option_map (λ (e : VoteEntry). e.1) (find (λ (e : VoteEntry). same_vote k e.0) o.votes.entries) ≡ option_map (λ (e : VoteEntry). e.1) (find (λ (e : VoteEntry). same_vote k e.0) p.votes.entries)) (sym key_is)
      (sym (o.votes_are named number voter) ∙ equal ∙ p.votes_are named number voter))
  vote_named (difference.Baseline team) h = absurd (let k = h.0 in cc)
  vote_named (difference.Hold p) h = absurd (let k = h.0 in cc)
  vote_named (difference.Row s) h = tt

module _ (a b : Database) (t u : Tables) (o : IsOffice a t) (p : IsOffice b u) (row : Row) (only : IsOnlyIn baseline_row o.baselines.entries p.baselines.entries row) where
  pub baseline_named : (d : Difference) → IsKeyOf table.Baselines row d → DifferAt t u d
  baseline_named difference.Schema h = absurd h
  baseline_named difference.Line h = absurd h
  baseline_named difference.Office h = absurd cc
  baseline_named (difference.User name) h = absurd (let k = h.0 in cc)
  baseline_named (difference.Revision p number) h = absurd (let k = h.0 in cc)
  baseline_named (difference.Vote p number voter) h = absurd (let k = h.0 in cc)
  baseline_named (difference.Baseline team) h = λ equal.
      let team_is = text_is row (baseline_row only.entry) 0 only.entry.0 team only.row_is refl h.1 in
      differ_at baseline_row baseline_keyed bytes_eq bytes_eq-Decides baseline_key IsBaseline table.Baselines baseline_showed baseline_sorts baseline_tied baseline_columns (λ e. e.1) (λ a b k v i. (k i, v i)) _ _ o.baselines p.baselines row only
      (subst (λ k. option_map (λ (e : BaselineEntry). e.1) (find (λ (e : BaselineEntry). bytes_eq k e.0) o.baselines.entries) ≡ option_map (λ (e : BaselineEntry). e.1) (find (λ (e : BaselineEntry). bytes_eq k e.0) p.baselines.entries)) (sym team_is)
      (sym (o.baselines_are team) ∙ equal ∙ p.baselines_are team))
  baseline_named (difference.Hold p) h = absurd (let k = h.0 in cc)
  baseline_named (difference.Row s) h = tt

module _ (a b : Database) (t u : Tables) (o : IsOffice a t) (p : IsOffice b u) (row : Row) (only : IsOnlyIn hold_row o.holds.entries p.holds.entries row) where
  pub hold_named : (d : Difference) → IsKeyOf table.Holds row d → DifferAt t u d
  hold_named difference.Schema h = absurd h
  hold_named difference.Line h = absurd h
  hold_named difference.Office h = absurd cc
  hold_named (difference.User name) h = absurd (let k = h.0 in cc)
  hold_named (difference.Revision p number) h = absurd (let k = h.0 in cc)
  hold_named (difference.Vote p number voter) h = absurd (let k = h.0 in cc)
  hold_named (difference.Baseline team) h = absurd (let k = h.0 in cc)
  hold_named (difference.Hold named) h = λ equal.
      let team_is = text_is row (hold_row only.entry) 0 only.entry.team named.team only.row_is refl h.1.0 in
      let profile_is = text_is row (hold_row only.entry) 1 only.entry.profile named.profile only.row_is refl h.1.1 in
      let key_is : ◌≡◌ {A = ProfileName} only.entry named = λ i. record { team = team_is i; profile = profile_is i } in
      differ_at hold_row hold_keyed is_profile profiles_decide hold_key IsProfileName table.Holds hold_showed hold_sorts hold_tied hold_columns {V = Unit {0}} (λ _. tt) (λ a b k v. k) _ _ o.holds p.holds row only
      (both_there (find (is_profile only.entry) o.holds.entries) (find (is_profile only.entry) p.holds.entries)
      (subst (λ k. is_some (find (is_profile k) o.holds.entries) ≡ is_some (find (is_profile k) p.holds.entries)) (sym key_is) (sym (o.holds_are named) ∙ equal ∙ p.holds_are named)))
  hold_named (difference.Row s) h = tt
