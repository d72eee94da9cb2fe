-- The notes of lines.
use Rattle.std.proofs.Common.{◌≡◌, ◌∙◌, ℕ, List, [], ◌++◌, Option, Ok, Err, IfOk, codes, decimal, ap, append_assoc, subst, sym}
use Rattle.json_requests.specs.declared.bad.BadLine.TheVariants.{NotARequest}
use Rattle.desk_lines.specs.Flaws.{flaw_in}
use Rattle.streams.specs.declared.counted.Counted.{Counted}
use Rattle.desk_lines.specs.Notes.{Found, named, note_line, HasNote, IsFoundIn, IsNote}
use Rattle.desk_lines.specs.declared.outcome.LineOutcome.{LineOutcome}
use Rattle.desk_lines.specs.declared.outcome.LineOutcome.TheVariants.{Bad}

-- a text of five parts
grouped : (a b c d e : List ℕ) → (((a ++ b) ++ c) ++ d) ++ e ≡ a ++ (b ++ (c ++ (d ++ e)))
grouped a b c d e = append_assoc ((a ++ b) ++ c) d e ∙ append_assoc (a ++ b) c (d ++ e) ∙ append_assoc a b (c ++ (d ++ e))

-- a note that is built part by part
pub note_is : (number : ℕ) (found : Found) (digits : List ℕ) {none begun counted told behind whole : List ℕ} → none ≡ [] → begun ≡ none ++ codes "office: line "
    → counted ≡ begun ++ digits → digits ≡ decimal number → told ≡ counted ++ codes ": not-a-request" → behind ≡ told ++ named found
    → whole ≡ behind ++ codes "\n" → whole ≡ note_line number found
note_is number found digits empty begins counts is tells names ends =
    let first = begins ∙ ap (λ t. t ++ codes "office: line ") empty in
    let second = counts ∙ ap (λ t. t ++ digits) first ∙ ap (λ t. codes "office: line " ++ t) is in
    let third = tells ∙ ap (λ t. t ++ codes ": not-a-request") second in
    let fourth = names ∙ ap (λ t. t ++ named found) third in
    ends ∙ ap (λ t. t ++ codes "\n") fourth ∙ grouped (codes "office: line ") (decimal number) (codes ": not-a-request") (named found) (codes "\n")

found_in : (line : List ℕ) (found : Found) → IfOk found (λ flaw. flaw ≡ flaw_in line) → IsFoundIn line found
found_in line (Ok flaw) is = is
found_in line (Err _) is = tt

-- a note was written of a line that is JSON and no request
pub noted : {E : Type 0} (said_of : E → Option (List ℕ)) (number : ℕ) (line : List ℕ) (outcome : LineOutcome) (errors said : Counted E) (found : Found) (text : List ℕ)
    → outcome ≡ Bad NotARequest → IfOk found (λ flaw. flaw ≡ flaw_in line) → text ≡ note_line number found → IsNote said_of errors said text
    → HasNote said_of number line outcome errors said
noted said_of number line outcome errors said found text is of_line so written =
    let whole = subst (λ (t : List ℕ). IsNote said_of errors said t) so written in
    subst (λ (o : LineOutcome). HasNote said_of number line o errors said) (sym is) (found, found_in line found of_line, whole)
