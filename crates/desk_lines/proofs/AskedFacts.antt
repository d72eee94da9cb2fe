-- What a line of some length asks, and what comes of it.
use Rattle.std.proofs.Common.{◌≡◌, ℕ, ◌<◌, ◌≤◌, List, Result, Err, length, refl, subst}
use Rattle.std.proofs.lemmas.Bool.{lt-ltb, le-ltb}
use Rattle.review_policy.specs.declared.ask.Request.{Request}
use Rattle.review_policy.specs.declared.answer.Answer.{Answer}
use Rattle.office_policy.specs.Meaning.{Meaning}
use Rattle.office_policy.specs.Handled.{IsHandled as IsRequestHandled}
use Rattle.json_requests.specs.declared.bad.BadLine.{BadLine}
use Rattle.json_requests.specs.declared.bad.BadLine.TheVariants.{TooLong}
use Rattle.json_requests.specs.declared.fault.LineFault.{LineFault}
use Rattle.json_requests.specs.Faults.{Tells}
use Rattle.json_requests.specs.Plain.{PlainRequest}
use Rattle.json_requests.specs.Requests.{request_in, asked, max_line, Asks}
use Rattle.desk_lines.specs.declared.outcome.LineOutcome.{LineOutcome}
use Rattle.desk_lines.specs.declared.outcome.LineOutcome.TheVariants.{Bad, NoMemory, Answered}
use Rattle.desk_lines.specs.Stands.{IsHandled}
use Rattle.office_policy.proofs.LeftFacts.{left_by_one}
use Rattle.office_policy.proofs.SurvivalFacts.{survives_none}
use Rattle.no_memory.specs.Witness.{witness}

pub asked_long : (line : List ℕ) → max_line < length line → asked line ≡ Err TooLong
unfolding asked
asked_long line long = rw (lt-ltb max_line (length line) long) refl

pub asked_short : (line : List ℕ) → length line ≤ max_line → asked line ≡ request_in line
unfolding asked
asked_short line short = rw (le-ltb max_line (length line) short) refl

module _ {X : Type 0} (m : Meaning X) where
  -- ---- what comes of a line

  -- it is no request
  pub handled_bad : (s : X) (line : List ℕ) (fault : BadLine) → asked line ≡ Err fault → IsHandled m s s line (Bad fault)
  handled_bad s line fault is = record {
    survives = survives_none m s;
    policy = λ h office clean. is;
    each = refl;
    office = λ h office. office;
    stands = λ h office clean stood. stood;
    crash = λ h office clean left may. may;
  }

  -- it was not read
  pub handled_unread : (s : X) (line : List ℕ) → IsHandled m s s line (NoMemory witness)
  handled_unread s line = record {
    survives = survives_none m s;
    policy = λ h office clean. tt;
    each = refl;
    office = λ h office. office;
    stands = λ h office clean stood. stood;
    crash = λ h office clean left may. may;
  }

  -- its request was handled
  pub handled_answered : (old new : X) (line : List ℕ) (request : Request) (answer : Answer) → Asks line request → IsRequestHandled m old new request answer
      → IsHandled m old new line (Answered request answer)
  handled_answered old new line request answer asks handled = record {
    survives = handled.survives;
    policy = λ h office clean. (asks, handled.answer h office clean);
    each = handled;
    office = handled.office;
    stands = handled.stands;
    crash = λ h office clean. left_by_one m (m.may_leave old) old new h request answer handled office clean (λ left may. may);
  }

-- ---- the fault of a line

pub tells_as : (e d : LineFault) (asked : Result PlainRequest BadLine) → e ≡ d → Tells e asked → Tells d asked
tells_as e d asked same tells = subst (λ (x : LineFault). Tells x asked) same tells
