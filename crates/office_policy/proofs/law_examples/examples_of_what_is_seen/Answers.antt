use Rattle.std.proofs.Common.{◌≡◌, ◌∙◌, true, false, Bool, Some, refl, sym, ap}
use Rattle.review_policy.specs.declared.answer.Reply.{Reply}
use Rattle.review_policy.specs.declared.answer.Reply.TheVariants as reply
use Rattle.review_policy.specs.Rules.{is_open}
use Rattle.office_words.specs.declared.row.RevisionRow.{RevisionRow}
use Rattle.office_policy.specs.Examples.{text, open_row}
use Rattle.office_policy.proofs.law_examples.examples_of_what_is_seen.Goals as goal

same : {A : Type 0} (x y : A) → Some x ≡ Some y → x ≡ y
same x y is = cc

-- whether an open revision is shown
abbrev shows_open : Reply → Bool
shows_open (reply.Shown digest body state) = is_open (Some state)
shows_open _ = false

pub returns-clause-revision : goal.returns-clause-revision
returns-clause-revision c = (open_row 1 text, refl, refl)

pub returns-clause-other_state : goal.returns-clause-other_state
returns-clause-other_state c = λ is.
    let row : open_row 1 text ≡ is.0 = same (open_row 1 text) is.0 is.1 in
    let k : true ≡ false = ap (λ (r : RevisionRow). is_open (Some r.state)) row ∙ sym (ap shows_open is.2) in
    absurd (let c : true ≡ false = k in cc)
