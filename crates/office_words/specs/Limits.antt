-- How many revisions there may be.
use Rattle.std.specs.Prelude.{ℕ}
use Rattle.office_words.specs.declared.revision.TheConstants.{MAX_LISTED, MAX_REVISIONS}

-- the greatest number of revisions of a profile
abbrev pub max_revisions : ℕ
max_revisions = MAX_REVISIONS

-- the greatest number of revisions in one list of a profile's
abbrev pub max_listed : ℕ
max_listed = MAX_LISTED
