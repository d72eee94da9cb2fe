-- What a request is answered, and what a list of requests leaves, each handled on what the ones
-- before it left.
use Rattle.std.specs.Prelude.{◌≡◌, List, [], ◌∷◌, Option, Some, None}
use Rattle.review_policy.specs.declared.ask.Request.{Request}
use Rattle.review_policy.specs.declared.answer.Answer.{Answer}
use Rattle.review_policy.specs.declared.answer.Answer.TheVariants.{Done, Denied, Fault}
use Rattle.office_words.specs.declared.fault.Fault.TheVariants as faults
use Rattle.office_policy.specs.History.{Event, History}
use Rattle.office_policy.specs.Verdict.{Verdict, accepted, denied, verdict}

-- the answer of a verdict
abbrev pub answer_of : Verdict → Answer
answer_of (accepted reply event) = Done reply
answer_of (denied denial fault) = Denied denial fault

-- the history with the event, where there is one
abbrev pub with_event : Option Event → History → History
with_event None h = h
with_event (Some e) h = e ∷ h

-- the event of what a verdict changes
abbrev pub event_of : Verdict → Option Event
event_of (accepted reply event) = event
event_of (denied denial fault) = None

-- the history after a request: a fault adds no event
abbrev pub history_after : History → Request → Answer → History
history_after h r (Fault f) = h
history_after h r answer = with_event (event_of (verdict h r)) h

-- the answer is the verdict's, or the fault of memory, of the disk or of room on it
abbrev pub IsAnswer : History → Request → Answer → Type 0
IsAnswer h r (Fault (faults.NoMemory _)) = Unit {0}
IsAnswer h r (Fault faults.Disk) = Unit {0}
IsAnswer h r (Fault faults.Full) = Unit {0}
IsAnswer h r (Fault faults.NotAnOffice) = ⊥
IsAnswer h r answer = answer ≡ answer_of (verdict h r)

-- each request has one answer: the policy's, on the requests that were accepted before it, or a
-- fault
abbrev pub Took : History → List Request → List Answer → Type 0
Took h [] [] = Unit {0}
Took h (request ∷ requests) (answer ∷ answers) =
    IsAnswer h request answer × Took (history_after h request answer) requests answers
Took h [] (answer ∷ answers) = ⊥
Took h (request ∷ requests) [] = ⊥

-- the history after all of them
abbrev pub history_after_all : History → List Request → List Answer → History
history_after_all h (request ∷ requests) (answer ∷ answers) =
    history_after_all (history_after h request answer) requests answers
history_after_all h _ _ = h
