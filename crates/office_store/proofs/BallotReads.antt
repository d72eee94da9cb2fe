-- What the read of one vote finds.
use Rattle.std.proofs.Common.{◌≡◌, ℕ, ℤ, List, [], ◌∷◌, codes, Result, Option, IfOk, Bool, true, false, refl, sym, ◌∙◌}
use Rattle.std.specs.Prelude.{option_map}
use Rattle.std.specs.List.{list_all}
use Rattle.sqlite.specs.declared.types.Value.TheVariants.{Int}
use Rattle.sqlite.specs.Order.{Row}
use Rattle.sqlite.specs.Term.{Term, col, holds}
use Rattle.sqlite.specs.Command.TheVariants.{Select}
use Rattle.sqlite.specs.State.{State}
use Rattle.sqlite_tied.specs.Compute.{everything}
use Rattle.sqlite.specs.Listing.{understood}
use Rattle.office_words.specs.declared.name.ProfileName.{ProfileName}
use Rattle.office_words.specs.declared.fault.Fault.{Fault}
use Rattle.office_words.specs.Tables.{Tables}
use Rattle.office_rows.specs.Entries.{row_of}
use Rattle.office_rows.specs.Faults.{FindsRow}
use Rattle.office_rows.proofs.Plain.{plain_query, Means}
use Rattle.office_rows.proofs.Finding.{finds_some}
use Rattle.office_store.specs.declared.votes.TheConstants.{VOTE_AT}
use Rattle.office_store.specs.declared.votes.Ballot.{Ballot}
use Rattle.office_store.specs.Ballots.{vote_of, row_of_ballot, IsBallot}
use Rattle.office_store.specs.Schema.{office_schema}
use Rattle.office_store.specs.Entries.{VoteKey, VoteEntry, same_vote, vote_key, vote_row, IsVote, bit}
use Rattle.office_store.specs.Keys.{vote_params}
use Rattle.office_store.specs.Shown.{Shows}
use Rattle.office_store.proofs.Columns.{column_is, text_is, number_is, four_are}
use Rattle.office_store.proofs.Kept.{map_of_map}
use Rattle.office_store.proofs.RowsOf.{IsRowOf, row_at}

abbrev shown_columns : List Term
shown_columns = col 1 5 ∷ col 1 6 ∷ []

abbrev at_vote : List Term
at_vote = column_is 1 0 ∷ column_is 2 1 ∷ column_is 3 2 ∷ column_is 4 3 ∷ []

abbrev names : List (List ℕ)
names = codes "approve" ∷ codes "security" ∷ []

vote_means : Means office_schema VOTE_AT.now (Select (record { lets = []; body = plain_query shown_columns at_vote 6 }) names)
unfolding understood everything
vote_means = record { is = refl; plain = (refl, refl); unlisted = refl }

vote_tested : (p : ProfileName) (n : ℕ) (voter : List ℕ) (k : ℤ × VoteEntry) → list_all (holds (vote_params p n voter ∷ row_of vote_row k ∷ [])) at_vote ≡ same_vote (vote_key p n voter) k.1.0
vote_tested p n voter k =
    four_are _ _ _ _ _ _ _ _ (text_is k.1.0.profile.team p.team) (text_is k.1.0.profile.profile p.profile) (number_is k.1.0.number n) (text_is k.1.0.voter voter)

abbrev vote_at : VoteKey → VoteEntry → Bool
vote_at k e = same_vote k e.0

abbrev ballot : VoteEntry → Ballot
ballot e = record { approves = e.1.approves; security = e.1.security }

module _ (old new : State) (t : Tables) (shows : Shows old t) where
  pub reads_vote : (p : ProfileName) (n : ℕ) (voter : List ℕ) (r : Result (Option Row) Fault) → FindsRow VOTE_AT.now (vote_params p n voter) old new r
      → IfOk r (IsRowOf row_of_ballot IsBallot (λ b. option_map vote_of b ≡ t.votes p n voter))
  reads_vote p n voter r h =
      let o = shows.office in
      let k = vote_key p n voter in
      let it = finds_some vote_row (λ e. row_of_ballot (ballot e)) (vote_at k) shown_columns at_vote office_schema VOTE_AT.now (vote_params p n voter) 6 names vote_means (vote_tested p n voter) (λ k. refl)
      old new o.schema o.votes.entries o.votes.kept r h in
      row_at vote_row vote_at IsVote (old.now.trees 6) o.votes k ballot row_of_ballot IsBallot (λ b. option_map vote_of b ≡ t.votes p n voter) (λ e formed at. tt) (map_of_map vote_of ballot _ ∙ sym (o.votes_are p n voter)) r it

same_bit : (a b : Bool) → Int (bit a) ≡ Int (bit b) → a ≡ b
same_bit true true e = refl
same_bit false false e = refl
same_bit true false e = absurd cc
same_bit false true e = absurd cc

pub same_ballot : (a b : Ballot) → row_of_ballot a ≡ row_of_ballot b → a ≡ b
same_ballot a b same =
    let approves : Int (bit a.approves) ≡ Int (bit b.approves) = cc in
    let security : Int (bit a.security) ≡ Int (bit b.security) = cc in
    λ i. record { approves = same_bit a.approves b.approves approves i; security = same_bit a.security b.security security i }
