-- The texts of differences.
use Rattle.std.specs.Prelude.{ℕ, List, ◌++◌, codes}
use Rattle.std.specs.Fmt.{decimal}
use Rattle.journal_faults.specs.declared.difference.Difference.{Difference}
use Rattle.journal_faults.specs.declared.difference.Difference.TheVariants as difference
use Rattle.journal_faults.specs.declared.table.Table.{Table}
use Rattle.journal_faults.specs.declared.table.Table.TheVariants as table

abbrev pub table_name : Table → List ℕ
table_name table.Office = codes "office"
table_name table.Users = codes "users"
table_name table.Revisions = codes "revisions"
table_name table.Votes = codes "votes"
table_name table.Baselines = codes "baselines"
table_name table.Holds = codes "holds"

abbrev pub difference_text : Difference → List ℕ
difference_text difference.Schema = codes "schema"
difference_text difference.Office = codes "office"
difference_text (difference.User name) = codes "users " ++ name
difference_text (difference.Revision p number) =
    codes "revisions " ++ p.team ++ codes "/" ++ p.profile ++ codes " " ++ decimal number
difference_text (difference.Vote p number voter) =
    codes "votes " ++ p.team ++ codes "/" ++ p.profile ++ codes " " ++ decimal number
    ++ codes " " ++ voter
difference_text (difference.Baseline team) = codes "baselines " ++ team
difference_text (difference.Hold p) = codes "holds " ++ p.team ++ codes "/" ++ p.profile
difference_text (difference.Row t) = table_name t
difference_text difference.Line = codes "line"
