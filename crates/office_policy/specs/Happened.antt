-- The events that the program's values are.
use Rattle.std.specs.Prelude.{ℕ, List}
use Rattle.office_policy.specs.History.{Event, founded, did}
use Rattle.office_policy.specs.declared.change.Change.{Change}
use Rattle.office_policy.specs.declared.change.Change.TheVariants as changes
use Rattle.office_policy.specs.declared.deed.Deed.{Deed}
use Rattle.office_policy.specs.declared.deed.Deed.TheVariants as deeds
use Rattle.office_policy.specs.declared.event.Event as values
use Rattle.office_policy.specs.declared.event.Event.TheVariants as events

abbrev pub event_meant : values.Event → Event
event_meant (events.Founded user team digest listed) = founded user team digest listed
event_meant (events.Did caller deed) = did caller deed

-- what is done by a change; the text of a submission is that of the revision
abbrev pub deed_of : Change → Deed
deed_of (changes.Enrol user) = deeds.Enrol user.name user.team user.roles user.digest
deed_of (changes.AddRevision p row) = deeds.Submit p row.body
deed_of (changes.Vote p n digest approves) = deeds.Vote p n digest approves
deed_of (changes.ActOnRevision act p n) = deeds.ActOnRevision act p n
deed_of (changes.ActOnProfile act p) = deeds.ActOnProfile act p

-- what happens by a change that a user of this name asks for
abbrev pub event_by : (caller : List ℕ) → Change → Event
event_by caller change = did caller (deed_of change)
