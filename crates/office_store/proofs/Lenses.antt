-- An office of which one table was written.
use Rattle.std.proofs.Common.{◌≡◌, ℕ, List, Bool, Option, refl, ◌∙◌, arith}
use Rattle.std.specs.Prelude.{find, option_map, is_some, bytes_eq}
use Rattle.sqlite.specs.Order.{Row}
use Rattle.sqlite.specs.Effect.{Database}
use Rattle.office_words.specs.declared.name.ProfileName.{ProfileName}
use Rattle.office_words.specs.declared.row.UserRow.{UserRow}
use Rattle.office_words.specs.declared.row.RevisionRow.{RevisionRow}
use Rattle.office_words.specs.Tables.{Tables, Vote, Baseline, is_profile}
use Rattle.office_rows.specs.Entries.{Stores}
use Rattle.office_rows.proofs.Writing.{IsTableOf, WritesIn}
use Rattle.office_store.specs.Schema.{office_schema, users_table, revisions_table, votes_table, baselines_table, holds_table}
use Rattle.office_store.specs.Entries.{is_named, same_revision, revision_key, same_vote}
use Rattle.office_store.specs.Shown.{Users, Revisions, Votes, Baselines, Holds, IsOffice}

pub is_users : IsTableOf office_schema 1 (users_table 1)
is_users = record { there = refl; uncounted = refl; plainly = λ trees. refl; free = λ gone news keys. refl }

pub is_revisions : IsTableOf office_schema 2 (revisions_table 4)
is_revisions = record { there = refl; uncounted = refl; plainly = λ trees. refl; free = λ gone news keys. refl }

pub is_votes : IsTableOf office_schema 3 (votes_table 6)
is_votes = record { there = refl; uncounted = refl; plainly = λ trees. refl; free = λ gone news keys. refl }

pub is_baselines : IsTableOf office_schema 4 (baselines_table 8)
is_baselines = record { there = refl; uncounted = refl; plainly = λ trees. refl; free = λ gone news keys. refl }

pub is_holds : IsTableOf office_schema 5 (holds_table 10)
is_holds = record { there = refl; uncounted = refl; plainly = λ trees. refl; free = λ gone news keys. refl }

-- the same entries, in rows that are the same
abbrev pub moved : {K X : Type 0} {encode : X → Row} {is_at : K → X → Bool} {IsFormed : X → Type 0} (rows next : List Row) → next ≡ rows → Stores encode is_at IsFormed rows → Stores encode is_at IsFormed next
moved rows next same s = record {
  entries = s.entries;
  kept = record { kept = s.kept.kept; rows_are = same ∙ s.kept.rows_are; apart = s.kept.apart; same = s.kept.same };
  own_keys = s.own_keys;
  formed = s.formed;
}

module _ (old new : Database) (t : Tables) (o : IsOffice old t) where
  pub with_users : WritesIn office_schema 1 old new → (users : Users (new.trees 1)) (get : List ℕ → Option UserRow) → ((name : List ℕ) → get name ≡ find (is_named name) users.entries)
      → IsOffice new (record t { users = get })
  with_users w users get are = record {
    schema = w.schema_is;
    sound = w.sound;
    office = w.tables.0 (λ e. omega (arith, e)) ∙ o.office;
    listed = o.listed;
    users = users;
    users_are = are;
    revisions = moved (old.trees 4) (new.trees 4) (w.tables.1.1.0 (λ e. omega (arith, e))) o.revisions;
    revisions_are = o.revisions_are;
    votes = moved (old.trees 6) (new.trees 6) (w.tables.1.1.1.0 (λ e. omega (arith, e))) o.votes;
    votes_are = o.votes_are;
    baselines = moved (old.trees 8) (new.trees 8) (w.tables.1.1.1.1.0 (λ e. omega (arith, e))) o.baselines;
    baselines_are = o.baselines_are;
    holds = moved (old.trees 10) (new.trees 10) (w.tables.1.1.1.1.1.0 (λ e. omega (arith, e))) o.holds;
    holds_are = o.holds_are;
  }

  pub with_revisions : WritesIn office_schema 4 old new → (revisions : Revisions (new.trees 4)) (get : ProfileName → ℕ → Option RevisionRow)
      → ((p : ProfileName) (n : ℕ) → get p n ≡ option_map (λ e. e.1) (find (λ e. same_revision (p, n) (revision_key e)) revisions.entries)) → IsOffice new (record t { revisions = get })
  with_revisions w revisions get are = record {
    schema = w.schema_is;
    sound = w.sound;
    office = w.tables.0 (λ e. omega (arith, e)) ∙ o.office;
    listed = o.listed;
    users = moved (old.trees 1) (new.trees 1) (w.tables.1.0 (λ e. omega (arith, e))) o.users;
    users_are = o.users_are;
    revisions = revisions;
    revisions_are = are;
    votes = moved (old.trees 6) (new.trees 6) (w.tables.1.1.1.0 (λ e. omega (arith, e))) o.votes;
    votes_are = o.votes_are;
    baselines = moved (old.trees 8) (new.trees 8) (w.tables.1.1.1.1.0 (λ e. omega (arith, e))) o.baselines;
    baselines_are = o.baselines_are;
    holds = moved (old.trees 10) (new.trees 10) (w.tables.1.1.1.1.1.0 (λ e. omega (arith, e))) o.holds;
    holds_are = o.holds_are;
  }

  pub with_votes : WritesIn office_schema 6 old new → (votes : Votes (new.trees 6)) (get : ProfileName → ℕ → List ℕ → Option Vote)
      → ((p : ProfileName) (n : ℕ) (voter : List ℕ) → get p n voter ≡ option_map (λ e. e.1) (find (λ e. same_vote (record { profile = p; number = n; voter = voter }) e.0) votes.entries))
      → IsOffice new (record t { votes = get })
  with_votes w votes get are = record {
    schema = w.schema_is;
    sound = w.sound;
    office = w.tables.0 (λ e. omega (arith, e)) ∙ o.office;
    listed = o.listed;
    users = moved (old.trees 1) (new.trees 1) (w.tables.1.0 (λ e. omega (arith, e))) o.users;
    users_are = o.users_are;
    revisions = moved (old.trees 4) (new.trees 4) (w.tables.1.1.0 (λ e. omega (arith, e))) o.revisions;
    revisions_are = o.revisions_are;
    votes = votes;
    votes_are = are;
    baselines = moved (old.trees 8) (new.trees 8) (w.tables.1.1.1.1.0 (λ e. omega (arith, e))) o.baselines;
    baselines_are = o.baselines_are;
    holds = moved (old.trees 10) (new.trees 10) (w.tables.1.1.1.1.1.0 (λ e. omega (arith, e))) o.holds;
    holds_are = o.holds_are;
  }

  pub with_baselines : WritesIn office_schema 8 old new → (baselines : Baselines (new.trees 8)) (get : List ℕ → Option Baseline)
      → ((team : List ℕ) → get team ≡ option_map (λ e. e.1) (find (λ e. bytes_eq team e.0) baselines.entries)) → IsOffice new (record t { baselines = get })
  with_baselines w baselines get are = record {
    schema = w.schema_is;
    sound = w.sound;
    office = w.tables.0 (λ e. omega (arith, e)) ∙ o.office;
    listed = o.listed;
    users = moved (old.trees 1) (new.trees 1) (w.tables.1.0 (λ e. omega (arith, e))) o.users;
    users_are = o.users_are;
    revisions = moved (old.trees 4) (new.trees 4) (w.tables.1.1.0 (λ e. omega (arith, e))) o.revisions;
    revisions_are = o.revisions_are;
    votes = moved (old.trees 6) (new.trees 6) (w.tables.1.1.1.0 (λ e. omega (arith, e))) o.votes;
    votes_are = o.votes_are;
    baselines = baselines;
    baselines_are = are;
    holds = moved (old.trees 10) (new.trees 10) (w.tables.1.1.1.1.1.0 (λ e. omega (arith, e))) o.holds;
    holds_are = o.holds_are;
  }

  pub with_holds : WritesIn office_schema 10 old new → (holds : Holds (new.trees 10)) (get : ProfileName → Bool) → ((p : ProfileName) → get p ≡ is_some (find (is_profile p) holds.entries))
      → IsOffice new (record t { holds = get })
  with_holds w holds get are = record {
    schema = w.schema_is;
    sound = w.sound;
    office = w.tables.0 (λ e. omega (arith, e)) ∙ o.office;
    listed = o.listed;
    users = moved (old.trees 1) (new.trees 1) (w.tables.1.0 (λ e. omega (arith, e))) o.users;
    users_are = o.users_are;
    revisions = moved (old.trees 4) (new.trees 4) (w.tables.1.1.0 (λ e. omega (arith, e))) o.revisions;
    revisions_are = o.revisions_are;
    votes = moved (old.trees 6) (new.trees 6) (w.tables.1.1.1.0 (λ e. omega (arith, e))) o.votes;
    votes_are = o.votes_are;
    baselines = moved (old.trees 8) (new.trees 8) (w.tables.1.1.1.1.0 (λ e. omega (arith, e))) o.baselines;
    baselines_are = o.baselines_are;
    holds = holds;
    holds_are = are;
  }
