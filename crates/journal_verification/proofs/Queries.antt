-- What the texts of the queries mean.
use Rattle.std.proofs.Common.{ℕ, List, [], ◌∷◌, codes, refl}
use Rattle.sqlite.specs.Term.{Term, col}
use Rattle.sqlite.specs.Query.{Query, inner, end}
use Rattle.sqlite.specs.Command.TheVariants.{Select}
use Rattle.sqlite.specs.Collation.TheVariants.{Binary}
use Rattle.sqlite.specs.Listing.{understood}
use Rattle.sqlite_tied.specs.Compute.{everything}
use Rattle.sqlite_value.specs.declared.keys.Key.{Key}
use Rattle.sqlite_value.specs.Keys.{ascending}
use Rattle.sqlite_resolve.specs.Compile.{first, returning}
use Rattle.office_rows.specs.Queries.{IsQuery}
use Rattle.office_rows.proofs.Queries.{is_query}
use Rattle.office_rows.proofs.Plain.{Means}
use Rattle.office_rows.proofs.InOrder.{ordered_query}
use Rattle.office_store.specs.Schema.{office_schema}
use Rattle.journal_faults.specs.declared.table.Table.{Table}
use Rattle.journal_faults.specs.declared.table.Table.TheVariants as table
use Rattle.journal_verification.specs.Texts.{rows_text, rowids_text}

-- the tree of a table
abbrev pub tree_of : Table → ℕ
tree_of table.Office = 0
tree_of table.Users = 1
tree_of table.Revisions = 4
tree_of table.Votes = 6
tree_of table.Baselines = 8
tree_of table.Holds = 10

-- what the query shows of a row
abbrev pub columns_of : Table → List Term
columns_of table.Office = col 1 0 ∷ col 1 2 ∷ col 1 3 ∷ []
columns_of table.Users = col 1 1 ∷ col 1 2 ∷ col 1 3 ∷ col 1 4 ∷ []
columns_of table.Revisions = col 1 1 ∷ col 1 2 ∷ col 1 3 ∷ col 1 4 ∷ col 1 5 ∷ col 1 6 ∷ col 1 7 ∷ []
columns_of table.Votes = col 1 1 ∷ col 1 2 ∷ col 1 3 ∷ col 1 4 ∷ col 1 5 ∷ col 1 6 ∷ []
columns_of table.Baselines = col 1 1 ∷ col 1 2 ∷ col 1 3 ∷ []
columns_of table.Holds = col 1 1 ∷ col 1 2 ∷ []

abbrev rising : Term → Term × Key
rising term = (term, ascending Binary)

abbrev pub order_of : Table → List (Term × Key)
order_of table.Office = rising (col 1 0) ∷ []
order_of table.Users = rising (col 1 1) ∷ []
order_of table.Revisions = rising (col 1 1) ∷ rising (col 1 2) ∷ rising (col 1 3) ∷ []
order_of table.Votes = rising (col 1 1) ∷ rising (col 1 2) ∷ rising (col 1 3) ∷ rising (col 1 4) ∷ []
order_of table.Baselines = rising (col 1 1) ∷ []
order_of table.Holds = rising (col 1 1) ∷ rising (col 1 2) ∷ []

abbrev pub names_of : Table → List (List ℕ)
names_of table.Office = codes "key" ∷ codes "schema" ∷ codes "listed" ∷ []
names_of table.Users = codes "name" ∷ codes "team" ∷ codes "roles" ∷ codes "token" ∷ []
names_of table.Revisions = codes "team" ∷ codes "profile" ∷ codes "number" ∷ codes "author" ∷ codes "state" ∷ codes "body" ∷ codes "digest" ∷ []
names_of table.Votes = codes "team" ∷ codes "profile" ∷ codes "number" ∷ codes "voter" ∷ codes "approve" ∷ codes "security" ∷ []
names_of table.Baselines = codes "team" ∷ codes "profile" ∷ codes "number" ∷ []
names_of table.Holds = codes "team" ∷ codes "profile" ∷ []

abbrev pub rows_query : Table → Query
rows_query t = ordered_query (columns_of t) [] (inner (tree_of t) end) (order_of t)

abbrev pub rowid_names : Table → List (List ℕ)
rowid_names table.Office = codes "key" ∷ []
rowid_names _ = codes "rowid" ∷ []

abbrev pub by_rowid : List (Term × Key)
by_rowid = rising (col 1 0) ∷ []

abbrev pub rowids_query : Table → Query
rowids_query t = ordered_query (col 1 0 ∷ []) [] (inner (tree_of t) end) by_rowid

pub rows_mean : (t : Table) → Means office_schema (rows_text t) (Select (record { lets = []; body = rows_query t }) (names_of t))
unfolding understood everything
rows_mean table.Office = record { is = refl; plain = (refl, refl); unlisted = refl }
rows_mean table.Users = record { is = refl; plain = (refl, refl); unlisted = refl }
rows_mean table.Revisions = record { is = refl; plain = (refl, refl); unlisted = refl }
rows_mean table.Votes = record { is = refl; plain = (refl, refl); unlisted = refl }
rows_mean table.Baselines = record { is = refl; plain = (refl, refl); unlisted = refl }
rows_mean table.Holds = record { is = refl; plain = (refl, refl); unlisted = refl }

pub rowids_mean : (t : Table) → Means office_schema (rowids_text t) (Select (record { lets = []; body = rowids_query t }) (rowid_names t))
unfolding understood everything
rowids_mean table.Office = record { is = refl; plain = (refl, refl); unlisted = refl }
rowids_mean table.Users = record { is = refl; plain = (refl, refl); unlisted = refl }
rowids_mean table.Revisions = record { is = refl; plain = (refl, refl); unlisted = refl }
rowids_mean table.Votes = record { is = refl; plain = (refl, refl); unlisted = refl }
rowids_mean table.Baselines = record { is = refl; plain = (refl, refl); unlisted = refl }
rowids_mean table.Holds = record { is = refl; plain = (refl, refl); unlisted = refl }

pub rows_are_asked : (t : Table) → IsQuery (rows_text t)
unfolding everything first returning
rows_are_asked table.Office = is_query (rows_text table.Office) _ (record { is = refl; bare = λ schema base. refl })
rows_are_asked table.Users = is_query (rows_text table.Users) _ (record { is = refl; bare = λ schema base. refl })
rows_are_asked table.Revisions = is_query (rows_text table.Revisions) _ (record { is = refl; bare = λ schema base. refl })
rows_are_asked table.Votes = is_query (rows_text table.Votes) _ (record { is = refl; bare = λ schema base. refl })
rows_are_asked table.Baselines = is_query (rows_text table.Baselines) _ (record { is = refl; bare = λ schema base. refl })
rows_are_asked table.Holds = is_query (rows_text table.Holds) _ (record { is = refl; bare = λ schema base. refl })

pub rowids_are_asked : (t : Table) → IsQuery (rowids_text t)
unfolding everything first returning
rowids_are_asked table.Office = is_query (rowids_text table.Office) _ (record { is = refl; bare = λ schema base. refl })
rowids_are_asked table.Users = is_query (rowids_text table.Users) _ (record { is = refl; bare = λ schema base. refl })
rowids_are_asked table.Revisions = is_query (rowids_text table.Revisions) _ (record { is = refl; bare = λ schema base. refl })
rowids_are_asked table.Votes = is_query (rowids_text table.Votes) _ (record { is = refl; bare = λ schema base. refl })
rowids_are_asked table.Baselines = is_query (rowids_text table.Baselines) _ (record { is = refl; bare = λ schema base. refl })
rowids_are_asked table.Holds = is_query (rowids_text table.Holds) _ (record { is = refl; bare = λ schema base. refl })
