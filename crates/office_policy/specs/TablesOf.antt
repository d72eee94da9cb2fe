-- The tables that a history leaves: what looking back over it gives at each key.
use Rattle.office_words.specs.Tables.{Tables}
use Rattle.office_policy.specs.History.{History}
use Rattle.office_policy.specs.Users.{user_of}
use Rattle.office_policy.specs.Revisions.{revision_of}
use Rattle.office_policy.specs.Votes.{kept_vote_of}
use Rattle.office_policy.specs.Holds.{is_held}
use Rattle.office_policy.specs.Baseline.{adoption_of, listed_of}

abbrev pub tables_of : History → Tables
tables_of h = record {
  listed = listed_of h;
  users = user_of h;
  revisions = revision_of h;
  votes = kept_vote_of h;
  baselines = adoption_of h;
  holds = is_held h;
}
