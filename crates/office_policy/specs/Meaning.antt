-- What an office is to those who see no store.
use Rattle.std.specs.Prelude.{ℕ}
use Rattle.office_words.specs.declared.fault.Fault.{Fault}
use Rattle.office_policy.specs.History.{Event, History}
use Rattle.office_policy.specs.Lawful.{IsLawfulHistory}

-- what a call writes down of events: none; one; or one, and that it is struck out
pub data Entry : Type 0 where
  no_entry : Entry
  entry_of : Event → Entry
  struck_entry_of : Event → Entry

-- what is meant by a value that handles requests
pub record Meaning (X : Type 0) : Type 1 where
  -- what it keeps its tables in has returned what was written
  pub is_clean : X → Type 0
  -- neither a fault nor a stray event has shut it
  pub is_open : X → Type 0
  -- how many times what it keeps its tables in has failed or refused, up to the greatest u64
  pub faults : X → ℕ
  -- what it keeps its tables in refuses, over what it has, to write the event after this history,
  -- with this fault. With `memory`, it may have none for that
  pub refuses : X → History → Event → Fault → Type 0
  -- the value is the office of this history, unless it is shut
  pub is_of : History → X → Type 0
  -- the second has what the first had, unless it is shut
  pub keeps : X → X → Type 0
  -- the event is a stray: it was written down, didn't happen, and couldn't be struck out
  pub is_stray : Event → X → Type 0
  -- the second has written down what the first had, and behind that just this, unless it is shut
  pub adds : Entry → X → X → Type 0
  -- the second has written down what the first had, and behind that maybe more; and so has what a crash
  -- leaves of it
  pub grows : X → X → Type 0
  -- what may be left of it after a crash, and when that is the office of a history
  pub Left : Type 0
  pub may_leave : X → Left → Type 0
  pub are_of : History → Left → Type 0
  -- what is left is the office of this history, and behind what is written down of that the event was
  -- begun, which didn't happen
  pub are_begun : History → Event → Left → Type 0
  -- the laws of these
  pub lawful : (h : History) (x : X) → is_of h x → IsLawfulHistory h
  pub keeps_itself : (x : X) → keeps x x
  pub keeps_on : (x y z : X) → keeps x y → keeps y z → keeps x z
  pub adds_none : (x : X) → adds no_entry x x
  pub adds_on : (e : Entry) (x y z : X) → adds no_entry x y → adds e y z → adds e x z
  pub grows_itself : (x : X) → grows x x
  pub grows_on : (x y z : X) → grows x y → grows y z → grows x z
  pub strays_shut : (e : Event) (x : X) → is_stray e x → is_open x → ⊥
