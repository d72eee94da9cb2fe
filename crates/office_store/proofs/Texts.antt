-- The texts of the reads are queries, whatever the schema, and the schema of an office takes them.
use Rattle.std.proofs.Common.{ℕ, List, [], ◌∷◌, refl}
use Rattle.sqlite.specs.declared.types.Value.TheVariants.{Text, Blob}
use Rattle.sqlite.specs.Listing.{understood}
use Rattle.sqlite_tied.specs.Compute.{everything}
use Rattle.sqlite_resolve.specs.Compile.{first, returning}
use Rattle.office_words.specs.declared.name.ProfileName.{ProfileName}
use Rattle.office_rows.proofs.Queries.{is_query}
use Rattle.office_store.specs.Keys.{profile_params, revision_params, author_params, vote_params}
use Rattle.office_store.specs.declared.author.TheConstants.{REVISION_BY, AUTHORS_OF}
use Rattle.office_store.specs.declared.baselines.TheConstants.{BASELINE_OF}
use Rattle.office_store.specs.declared.briefs.TheConstants.{ISSUED_BRIEF}
use Rattle.office_store.specs.declared.holds.TheConstants.{HOLD_OF}
use Rattle.office_store.specs.declared.listing.TheConstants.{REVISIONS_OF}
use Rattle.office_store.specs.declared.numbers.TheConstants.{LAST_NUMBERED, ISSUED_NUMBER}
use Rattle.office_store.specs.declared.newest.TheConstants.{NEWEST_BELOW}
use Rattle.office_store.specs.declared.revisions.TheConstants.{REVISION_AT, REVISION_OF, ISSUED_OF, LAST_OF}
use Rattle.office_store.specs.declared.standing_votes.TheConstants.{VOTES_ON}
use Rattle.office_store.specs.declared.summaries.TheConstants.{STATE_AND_DIGEST}
use Rattle.office_store.specs.declared.users.TheConstants.{USER_BY_NAME, USER_BY_TOKEN}
use Rattle.office_store.specs.declared.votes.TheConstants.{VOTE_AT}
use Rattle.office_store.specs.declared.walk.TheConstants.{LISTED_ABOVE}
use Rattle.office_store.proofs.Calls.{Asks}

pub user_by_name : (name : List ℕ) → Asks USER_BY_NAME.now (Text name ∷ [])
unfolding understood everything first returning
user_by_name name = record {
  query = is_query USER_BY_NAME.now _ (record { is = refl; bare = λ schema base. refl });
  sure = record { text = record { whole = refl; given = refl; bare = refl; timeless = refl; query = (refl, refl, refl, refl) }; unlisted = refl };
}

pub user_by_token : (digest : List ℕ) → Asks USER_BY_TOKEN.now (Blob digest ∷ [])
unfolding understood everything first returning
user_by_token digest = record {
  query = is_query USER_BY_TOKEN.now _ (record { is = refl; bare = λ schema base. refl });
  sure = record { text = record { whole = refl; given = refl; bare = refl; timeless = refl; query = (refl, refl, refl, refl) }; unlisted = refl };
}

pub revision_at : (p : ProfileName) (n : ℕ) → Asks REVISION_AT.now (revision_params p n)
unfolding understood everything first returning
revision_at p n = record {
  query = is_query REVISION_AT.now _ (record { is = refl; bare = λ schema base. refl });
  sure = record { text = record { whole = refl; given = refl; bare = refl; timeless = refl; query = (refl, refl, refl, refl) }; unlisted = refl };
}

pub summary_at : (p : ProfileName) (n : ℕ) → Asks STATE_AND_DIGEST.now (revision_params p n)
unfolding understood everything first returning
summary_at p n = record {
  query = is_query STATE_AND_DIGEST.now _ (record { is = refl; bare = λ schema base. refl });
  sure = record { text = record { whole = refl; given = refl; bare = refl; timeless = refl; query = (refl, refl, refl, refl) }; unlisted = refl };
}

pub revision_of : (p : ProfileName) → Asks REVISION_OF.now (profile_params p)
unfolding understood everything first returning
revision_of p = record {
  query = is_query REVISION_OF.now _ (record { is = refl; bare = λ schema base. refl });
  sure = record { text = record { whole = refl; given = refl; bare = refl; timeless = refl; query = (refl, refl, refl, refl) }; unlisted = refl };
}

pub issued_of : (p : ProfileName) → Asks ISSUED_OF.now (profile_params p)
unfolding understood everything first returning
issued_of p = record {
  query = is_query ISSUED_OF.now _ (record { is = refl; bare = λ schema base. refl });
  sure = record { text = record { whole = refl; given = refl; bare = refl; timeless = refl; query = (refl, refl, refl, refl) }; unlisted = refl };
}

pub last_of : (p : ProfileName) → Asks LAST_OF.now (profile_params p)
unfolding understood everything first returning
last_of p = record {
  query = is_query LAST_OF.now _ (record { is = refl; bare = λ schema base. refl });
  sure = record { text = record { whole = refl; given = refl; bare = refl; timeless = refl; query = (refl, refl, refl, refl) }; unlisted = refl };
}

pub last_numbered : (p : ProfileName) → Asks LAST_NUMBERED.now (profile_params p)
unfolding understood everything first returning
last_numbered p = record {
  query = is_query LAST_NUMBERED.now _ (record { is = refl; bare = λ schema base. refl });
  sure = record { text = record { whole = refl; given = refl; bare = refl; timeless = refl; query = (refl, refl, refl, refl) }; unlisted = refl };
}

pub issued_number : (p : ProfileName) → Asks ISSUED_NUMBER.now (profile_params p)
unfolding understood everything first returning
issued_number p = record {
  query = is_query ISSUED_NUMBER.now _ (record { is = refl; bare = λ schema base. refl });
  sure = record { text = record { whole = refl; given = refl; bare = refl; timeless = refl; query = (refl, refl, refl, refl) }; unlisted = refl };
}

pub issued_brief : (p : ProfileName) → Asks ISSUED_BRIEF.now (profile_params p)
unfolding understood everything first returning
issued_brief p = record {
  query = is_query ISSUED_BRIEF.now _ (record { is = refl; bare = λ schema base. refl });
  sure = record { text = record { whole = refl; given = refl; bare = refl; timeless = refl; query = (refl, refl, refl, refl) }; unlisted = refl };
}

pub newest_below : (p : ProfileName) (below : ℕ) → Asks NEWEST_BELOW.now (revision_params p below)
unfolding understood everything first returning
newest_below p below = record {
  query = is_query NEWEST_BELOW.now _ (record { is = refl; bare = λ schema base. refl });
  sure = record { text = record { whole = refl; given = refl; bare = refl; timeless = refl; query = (refl, refl, refl, refl) }; unlisted = refl };
}

pub baseline_of : (team : List ℕ) → Asks BASELINE_OF.now (Text team ∷ [])
unfolding understood everything first returning
baseline_of team = record {
  query = is_query BASELINE_OF.now _ (record { is = refl; bare = λ schema base. refl });
  sure = record { text = record { whole = refl; given = refl; bare = refl; timeless = refl; query = (refl, refl, refl, refl) }; unlisted = refl };
}

pub hold_of : (p : ProfileName) → Asks HOLD_OF.now (profile_params p)
unfolding understood everything first returning
hold_of p = record {
  query = is_query HOLD_OF.now _ (record { is = refl; bare = λ schema base. refl });
  sure = record { text = record { whole = refl; given = refl; bare = refl; timeless = refl; query = (refl, refl, refl, refl) }; unlisted = refl };
}

pub revision_by : (p : ProfileName) (name : List ℕ) → Asks REVISION_BY.now (author_params p name)
unfolding understood everything first returning
revision_by p name = record {
  query = is_query REVISION_BY.now _ (record { is = refl; bare = λ schema base. refl });
  sure = record { text = record { whole = refl; given = refl; bare = refl; timeless = refl; query = (refl, refl, refl, refl) }; unlisted = refl };
}

pub authors_of : (p : ProfileName) → Asks AUTHORS_OF.now (profile_params p)
unfolding understood everything first returning
authors_of p = record {
  query = is_query AUTHORS_OF.now _ (record { is = refl; bare = λ schema base. refl });
  sure = record { text = record { whole = refl; given = refl; bare = refl; timeless = refl; query = (refl, refl, refl, refl) }; unlisted = refl };
}

pub revisions_of : (team : List ℕ) → Asks REVISIONS_OF.now (Text team ∷ [])
unfolding understood everything first returning
revisions_of team = record {
  query = is_query REVISIONS_OF.now _ (record { is = refl; bare = λ schema base. refl });
  sure = record { text = record { whole = refl; given = refl; bare = refl; timeless = refl; query = (refl, refl, refl, refl) }; unlisted = refl };
}

pub listed_above : (team text : List ℕ) → Asks LISTED_ABOVE.now (Text team ∷ Text text ∷ [])
unfolding understood everything first returning
listed_above team text = record {
  query = is_query LISTED_ABOVE.now _ (record { is = refl; bare = λ schema base. refl });
  sure = record { text = record { whole = refl; given = refl; bare = refl; timeless = refl; query = (refl, refl, refl, refl) }; unlisted = refl };
}

pub votes_on : (p : ProfileName) (n : ℕ) → Asks VOTES_ON.now (revision_params p n)
unfolding understood everything first returning
votes_on p n = record {
  query = is_query VOTES_ON.now _ (record { is = refl; bare = λ schema base. refl });
  sure = record { text = record { whole = refl; given = refl; bare = refl; timeless = refl; query = (refl, refl, refl, refl) }; unlisted = refl };
}

pub vote_at : (p : ProfileName) (n : ℕ) (voter : List ℕ) → Asks VOTE_AT.now (vote_params p n voter)
unfolding understood everything first returning
vote_at p n voter = record {
  query = is_query VOTE_AT.now _ (record { is = refl; bare = λ schema base. refl });
  sure = record { text = record { whole = refl; given = refl; bare = refl; timeless = refl; query = (refl, refl, refl, refl) }; unlisted = refl };
}
