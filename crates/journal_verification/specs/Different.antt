-- Where the tables of two offices differ.
use Rattle.std.specs.Prelude.{◌≢◌}
use Rattle.office_words.specs.Tables.{Tables}
use Rattle.journal_faults.specs.declared.difference.Difference.{Difference}
use Rattle.journal_faults.specs.declared.difference.Difference.TheVariants as difference

-- at the key that the difference names; no two offices differ in their schema, nor in what isn't a
-- table, and of a row that has no key nothing is said
abbrev pub DifferAt : Tables → Tables → Difference → Type 0
DifferAt t u difference.Schema = ⊥
DifferAt t u difference.Office = t.listed ≢ u.listed
DifferAt t u (difference.User name) = t.users name ≢ u.users name
DifferAt t u (difference.Revision p number) = t.revisions p number ≢ u.revisions p number
DifferAt t u (difference.Vote p number voter) = t.votes p number voter ≢ u.votes p number voter
DifferAt t u (difference.Baseline team) = t.baselines team ≢ u.baselines team
DifferAt t u (difference.Hold p) = t.holds p ≢ u.holds p
DifferAt t u (difference.Row table) = Unit {0}
DifferAt t u difference.Line = ⊥
