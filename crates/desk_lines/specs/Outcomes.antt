-- What comes of lines, each handled on what the ones before it left, and what is written for them.
use Rattle.std.specs.Prelude.{◌≡◌, ℕ, List, [], ◌∷◌, ◌++◌, Option, Some, None, Err}
use Rattle.std.specs.Option.{option_or}
use Rattle.review_policy.specs.declared.ask.Request.{Request}
use Rattle.review_policy.specs.declared.answer.Answer.{Answer}
use Rattle.review_policy.specs.declared.answer.Answer.TheVariants.{Fault}
use Rattle.office_words.specs.declared.fault.Fault.TheVariants as faults
use Rattle.office_policy.specs.History.{History}
use Rattle.office_policy.specs.Runs.{IsAnswer, history_after}
use Rattle.json_requests.specs.Answers.{line_of}
use Rattle.json_requests.specs.Bad.{bad_line}
use Rattle.json_requests.specs.Requests.{asked, Asks}
use Rattle.desk_lines.specs.declared.outcome.LineOutcome.{LineOutcome}
use Rattle.desk_lines.specs.declared.outcome.LineOutcome.TheVariants.{Bad, NoMemory, Answered}
use Rattle.no_memory.specs.Witness.{witness}
use Rattle.no_memory.specs.declared.witness.NoMemory.{«NoMemory» as Want}

-- what may come of a line: it is no request, there was no memory to read it, or its request
-- has this answer
abbrev pub IsOutcome : History → List ℕ → LineOutcome → Type 0
IsOutcome h line (Bad fault) = asked line ≡ Err fault
IsOutcome h line (NoMemory _) = Unit {0}
IsOutcome h line (Answered request answer) = Asks line request × IsAnswer h request answer

-- the history after it: only a request that is carried out adds an event
abbrev pub history_after_line : History → LineOutcome → History
history_after_line h (Bad fault) = h
history_after_line h (NoMemory _) = h
history_after_line h (Answered request answer) = history_after h request answer

-- the line that answers it
abbrev pub told : LineOutcome → List ℕ
told (Bad fault) = bad_line fault
told (NoMemory _) = line_of (Fault (faults.NoMemory witness))
told (Answered request answer) = line_of answer

-- the want of memory that this line tells, where it tells one
abbrev pub want_of : LineOutcome → Option Want
want_of (NoMemory memory) = Some memory
want_of (Answered request (Fault (faults.NoMemory memory))) = Some memory
want_of _ = None

-- the first that one of the lines of some tells
abbrev pub want_in : List LineOutcome → Option Want
want_in [] = None
want_in (outcome ∷ outcomes) = option_or (want_of outcome) (want_in outcomes)

-- the requests that were asked, in their order
abbrev pub requests_of : List LineOutcome → List Request
requests_of [] = []
requests_of (Bad fault ∷ outcomes) = requests_of outcomes
requests_of ((NoMemory _) ∷ outcomes) = requests_of outcomes
requests_of (Answered request answer ∷ outcomes) = request ∷ requests_of outcomes

-- the answers to the requests that were asked, in their order
abbrev pub answers_of : List LineOutcome → List Answer
answers_of [] = []
answers_of (Bad fault ∷ outcomes) = answers_of outcomes
answers_of ((NoMemory _) ∷ outcomes) = answers_of outcomes
answers_of (Answered request answer ∷ outcomes) = answer ∷ answers_of outcomes

-- each line has one outcome, on the history that the lines before it left
abbrev pub AreOutcomes : History → List (List ℕ) → List LineOutcome → Type 0
AreOutcomes h [] [] = Unit {0}
AreOutcomes h (line ∷ lines) (outcome ∷ outcomes) =
    IsOutcome h line outcome × AreOutcomes (history_after_line h outcome) lines outcomes
AreOutcomes h [] (outcome ∷ outcomes) = ⊥
AreOutcomes h (line ∷ lines) [] = ⊥

-- the history after all of them
abbrev pub history_after_lines : History → List LineOutcome → History
history_after_lines h [] = h
history_after_lines h (outcome ∷ outcomes) =
    history_after_lines (history_after_line h outcome) outcomes

-- the transcript: the lines that answer them, one after the other
abbrev pub transcript : List LineOutcome → List ℕ
transcript [] = []
transcript (outcome ∷ outcomes) = told outcome ++ transcript outcomes
