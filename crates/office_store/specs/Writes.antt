-- The statements of each write.
use Rattle.std.specs.Prelude.{ℕ, List, [], ◌∷◌}
use Rattle.office_words.specs.declared.name.ProfileName.{ProfileName}
use Rattle.office_words.specs.declared.row.UserRow.{UserRow}
use Rattle.office_words.specs.declared.row.RevisionRow.{RevisionRow}
use Rattle.office_rows.specs.Statements.{Statement}
use Rattle.office_store.specs.declared.users.TheConstants.{PUT_USER}
use Rattle.office_store.specs.declared.revisions.TheConstants.{CLOSE_OPEN, INSERT_REVISION}
use Rattle.office_store.specs.declared.revisions.TheConstants.{REPLACE_ISSUED, ISSUE_REVISION}
use Rattle.office_store.specs.declared.revisions.TheConstants.{WITHDRAW_REVISION}
use Rattle.office_store.specs.declared.votes.TheConstants.{PUT_VOTE}
use Rattle.office_store.specs.declared.baselines.TheConstants.{PUT_BASELINE}
use Rattle.office_store.specs.declared.holds.TheConstants.{DELETE_HOLD, INSERT_HOLD}
use Rattle.office_store.specs.Entries.{user_row, revision_row, VoteEntry, vote_row}
use Rattle.office_store.specs.Entries.{baseline_entry, baseline_row, hold_row}
use Rattle.office_store.specs.Keys.{profile_params, revision_params}
use Rattle.office_store.specs.Steps.{statement}

abbrev pub putting_user : UserRow → List Statement
putting_user u = statement PUT_USER.now (user_row u) ∷ []

abbrev pub adding_revision : ProfileName → RevisionRow → List Statement
adding_revision p r =
    statement CLOSE_OPEN.now (profile_params p)
    ∷ statement INSERT_REVISION.now (revision_row (p, r))
    ∷ []

abbrev pub issuing : ProfileName → ℕ → List Statement
issuing p n =
    statement REPLACE_ISSUED.now (profile_params p)
    ∷ statement ISSUE_REVISION.now (revision_params p n)
    ∷ []

abbrev pub withdrawing : ProfileName → ℕ → List Statement
withdrawing p n = statement WITHDRAW_REVISION.now (revision_params p n) ∷ []

abbrev pub putting_vote : VoteEntry → List Statement
putting_vote e = statement PUT_VOTE.now (vote_row e) ∷ []

abbrev pub putting_baseline : ProfileName → ℕ → List Statement
putting_baseline p n = statement PUT_BASELINE.now (baseline_row (baseline_entry p n)) ∷ []

abbrev pub holding : ProfileName → List Statement
holding p =
    statement DELETE_HOLD.now (profile_params p) ∷ statement INSERT_HOLD.now (hold_row p) ∷ []

abbrev pub releasing : ProfileName → List Statement
releasing p = statement DELETE_HOLD.now (profile_params p) ∷ []
