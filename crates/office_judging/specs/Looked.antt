-- What is looked back for a list of revisions.
use Rattle.std.specs.Prelude.{ℕ, List, Option, map, take}
use Rattle.office_words.specs.declared.listed.ProfileRevision.{ProfileRevision}
use Rattle.office_words.specs.declared.name.ProfileName.{ProfileName}
use Rattle.office_words.specs.Lists.{told_revision}
use Rattle.office_store.specs.Lists.{most_read}
use Rattle.office_policy.specs.History.{History}
use Rattle.office_policy.specs.Newest.{revisions_before}

-- what is told of the newest revisions of a profile, one more than a list has
abbrev pub newest_at : ProfileName → Option ℕ → History → List ProfileRevision
newest_at p before h = map told_revision (take most_read (revisions_before h p before))
