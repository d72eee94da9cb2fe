use Rattle.std.proofs.Common.{◌∙◌, ◌∷◌, [], ◌++◌, ap, codes, decimal}
use Rattle.std.specs.Prelude.{string_bytes}
use Rattle.hex.specs.Hex.{encode_lower}
use Rattle.office_words.specs.WordTables.{state_word}
use Rattle.review_sheet.specs.Layout.{ended}
use Rattle.review_sheet.specs.Sheet.{baseline_text, head_lines}
use Rattle.review_sheet.proofs.Adding.{last_line, line_then}
use Rattle.review_sheet.proofs.sheet_text.push_head.Goals as goal

pub returns : goal.returns
unfolding head_lines
returns c =
    let s = c.args.facts.now in
    let title = codes "REVIEW SHEET" in
    let team = codes "team: " ++ s.team in
    let profile = codes "profile: " ++ s.profile in
    let revision = codes "revision: " ++ decimal s.number in
    let state = codes "state: " ++ state_word s.state in
    let digest = codes "digest: " ++ encode_lower s.digest in
    let baseline = codes "baseline: " ++ baseline_text s.baseline in
    let one = string_bytes c.push_str.new.self in
    let two = string_bytes c.push_line.new.text in
    let three = string_bytes c.push_line-2.new.text in
    let four = string_bytes c.push_count.new.text in
    let five = string_bytes c.push_line-3.new.text in
    let six = string_bytes c.push_line-4.new.text in
    let seven = string_bytes c.push_baseline.new.text in
    line_then (string_bytes c.args.text.now) one seven title (team ∷ profile ∷ revision ∷ state ∷ digest ∷ baseline ∷ []) c.in_ok-push_str.ensures.bytes
    (line_then one two seven team (profile ∷ revision ∷ state ∷ digest ∷ baseline ∷ [])
    (c.in_ok-push_line.ensures ∙ ap (λ t. one ++ ended (codes "team: " ++ t)) (c.as_str.ensures.text ∙ ap (λ v. v.team) c.facts.view_is))
    (line_then two three seven profile (revision ∷ state ∷ digest ∷ baseline ∷ [])
    (c.in_ok-push_line-2.ensures ∙ ap (λ t. two ++ ended (codes "profile: " ++ t)) (c.as_str-2.ensures.text ∙ ap (λ v. v.profile) c.facts.view_is))
    (line_then three four seven revision (state ∷ digest ∷ baseline ∷ [])
    (c.in_ok-push_count.ensures ∙ ap (λ v. three ++ ended (codes "revision: " ++ decimal v.number)) c.facts.view_is)
    (line_then four five seven state (digest ∷ baseline ∷ [])
    (c.in_ok-push_line-3.ensures ∙ ap (λ t. four ++ ended (codes "state: " ++ t)) (c.word.ensures ∙ ap (λ v. state_word v.state) c.facts.view_is))
    (line_then five six seven digest (baseline ∷ [])
    (c.in_ok-push_line-4.ensures ∙ ap (λ t. five ++ ended (codes "digest: " ++ t))
    (c.as_str-3.ensures.value ∙ c.in_ok-digest.ensures ∙ ap (λ v. encode_lower v.digest) c.facts.view_is))
    (last_line six seven baseline
    (c.in_ok-push_baseline.ensures ∙ ap (λ v. six ++ ended (codes "baseline: " ++ baseline_text v.baseline)) c.facts.view_is)))))))
