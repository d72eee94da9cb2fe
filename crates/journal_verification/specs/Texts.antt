-- The tables of an office, and the queries of them.
use Rattle.std.specs.Prelude.{ℕ, List, [], ◌∷◌}
use Rattle.journal_faults.specs.declared.table.Table.{Table}
use Rattle.journal_faults.specs.declared.table.Table.TheVariants as table
use Rattle.journal_verification.specs.declared.table.TheConstants as query

-- the tables, in the order in which those of two offices are compared
abbrev pub tables : List Table
tables =
    table.Office ∷ table.Users ∷ table.Revisions ∷ table.Votes ∷ table.Baselines ∷ table.Holds
    ∷ []

-- the query of all columns of the rows, by their key
abbrev pub rows_text : Table → List ℕ
rows_text table.Office = query.OFFICE.now
rows_text table.Users = query.USERS.now
rows_text table.Revisions = query.REVISIONS.now
rows_text table.Votes = query.VOTES.now
rows_text table.Baselines = query.BASELINES.now
rows_text table.Holds = query.HOLDS.now

-- the query of the rowids
abbrev pub rowids_text : Table → List ℕ
rowids_text table.Office = query.OFFICE_ROWIDS.now
rowids_text table.Users = query.USERS_ROWIDS.now
rowids_text table.Revisions = query.REVISIONS_ROWIDS.now
rowids_text table.Votes = query.VOTES_ROWIDS.now
rowids_text table.Baselines = query.BASELINES_ROWIDS.now
rowids_text table.Holds = query.HOLDS_ROWIDS.now

-- how many columns of a row are its key
abbrev pub key_width : Table → ℕ
key_width table.Office = 1
key_width table.Users = 1
key_width table.Revisions = 3
key_width table.Votes = 4
key_width table.Baselines = 1
key_width table.Holds = 2
