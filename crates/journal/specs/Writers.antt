-- Of each table of an office the newest event that wrote to it, by which one sees whether tables
-- are those of a history.
use Rattle.std.specs.Prelude.{[], ◌∷◌, Box, Option, Some, None, option_map}
use Rattle.std.specs.declared.alloc.Global.{Global}
use Rattle.review_policy.specs.declared.act.Effect.{Effect}
use Rattle.review_policy.specs.declared.act.Effect.TheVariants.{Issues, Withdraws, Adopts}
use Rattle.review_policy.specs.Acts.{effect_of}
use Rattle.office_words.specs.Tables.{Tables}
use Rattle.office_policy.specs.Happened.{event_meant}
use Rattle.office_policy.specs.History.{Event, History, founded, enrolled, submitted, voted}
use Rattle.office_policy.specs.History.{on_revision, on_profile}
use Rattle.office_policy.specs.ShowsEvent.{Shows}
use Rattle.office_policy.specs.declared.event.Event as values
use Rattle.journal.specs.declared.writers.Table.{Table}
use Rattle.journal.specs.declared.writers.Table.TheVariants.{Users, Revisions, Votes, Baselines}
use Rattle.journal.specs.declared.writers.Table.TheVariants.{Holds}
use Rattle.journal.specs.declared.writers.Writers.{Writers as TheWriters}

-- of each table the newest event that wrote to it, where one did
pub record Writers : Type 0 where
  pub users : Option Event
  pub revisions : Option Event
  pub votes : Option Event
  pub baselines : Option Event
  pub holds : Option Event

abbrev pub no_writers : Writers
no_writers =
    record { users = None; revisions = None; votes = None; baselines = None; holds = None }

-- the table that the effect of an act on a revision is written to
abbrev pub table_of_effect : Effect → Table
table_of_effect Issues = Revisions
table_of_effect Withdraws = Revisions
table_of_effect Adopts = Baselines

-- the table that an event writes to
abbrev pub table_of : Event → Table
table_of (founded name team digest listed) = Users
table_of (enrolled caller name team roles digest) = Users
table_of (submitted caller p text) = Revisions
table_of (voted caller p n digest approves) = Votes
table_of (on_revision caller act p n) = table_of_effect (effect_of act)
table_of (on_profile caller act p) = Holds

-- An event comes behind these, that writes to this table. What a vote shows depends on its voter's
-- roles, so a vote before an enrolment is passed over.
abbrev pub with_writer_to : Table → Event → Writers → Writers
with_writer_to Users e w = record w { users = Some e; votes = None }
with_writer_to Revisions e w = record w { revisions = Some e }
with_writer_to Votes e w = record w { votes = Some e }
with_writer_to Baselines e w = record w { baselines = Some e }
with_writer_to Holds e w = record w { holds = Some e }

abbrev pub with_writer : Event → Writers → Writers
with_writer e w = with_writer_to (table_of e) e w

-- the writers of a history
abbrev pub writers_of : History → Writers
writers_of [] = no_writers
writers_of (e ∷ before) = with_writer e (writers_of before)

-- an event that the tables show, or none
abbrev pub ShowsIf : Tables → Option Event → Type 0
ShowsIf t None = Unit {0}
ShowsIf t (Some e) = Shows t e

-- an event that the tables show
abbrev pub ShowsOne : Tables → Option Event → Type 0
ShowsOne t None = ⊥
ShowsOne t (Some e) = Shows t e

-- the tables show each of them, and a user was enrolled
pub record ShowsWriters (t : Tables) (w : Writers) : Type 0 where
  pub users : ShowsOne t w.users
  pub revisions : ShowsIf t w.revisions
  pub votes : ShowsIf t w.votes
  pub baselines : ShowsIf t w.baselines
  pub holds : ShowsIf t w.holds

-- the event that a value of the program is, where there is one
abbrev pub boxed_meant : Option (Box values.Event Global) → Option Event
boxed_meant event = option_map (λ b. event_meant b.value) event

-- the writers that a value of the program is
abbrev pub writers_meant : TheWriters → Writers
writers_meant w = record {
  users = boxed_meant w.users;
  revisions = boxed_meant w.revisions;
  votes = boxed_meant w.votes;
  baselines = boxed_meant w.baselines;
  holds = boxed_meant w.holds;
}
