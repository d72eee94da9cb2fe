use Rattle.std.proofs.Common.{◌≡◌, ◌∙◌, ◌==◌, ℕ, Bool, List, [], ◌∷◌, ◌++◌, ap, sym, codes}
use Rattle.std.specs.Prelude.{not, string_bytes}
use Rattle.review_policy.specs.Rules.{need_of}
use Rattle.widening.specs.Findings.{findings_of, is_found}
use Rattle.review_sheet.specs.Filters.{seccomp_lines}
use Rattle.review_sheet.specs.Layout.{joined}
use Rattle.profile_text.specs.Profile.{listed_in}
use Rattle.review_sheet.specs.Review.{findings_lines, need_text, tally_lines, votes_lines}
use Rattle.review_sheet.specs.Sets.{caps_lines, set_line}
use Rattle.review_sheet.specs.Sheet.{head_lines, need_lines, sheet_lines, sheet_text}
use Rattle.review_sheet.proofs.Adding.{found_some, then_lines}
use Rattle.review_sheet.proofs.sheet_text.sheet.Goals as goal

-- the lines of the need, by what the document holds of the listed capabilities and whether something is found
abbrev lines_by : ℕ → Bool → List (List ℕ)
lines_by listed wide = set_line (codes "listed") listed ∷ (codes "need: " ++ need_text (need_of wide (not (listed == 0)))) ∷ []

pub returns : goal.returns
unfolding sheet_text sheet_lines need_lines
returns c =
    let s = c.args.facts.now in
    let found = findings_of s.base s.shown in
    let one = string_bytes c.push_head.new.text in
    let two = string_bytes c.push_caps.new.text in
    let three = string_bytes c.push_seccomp.new.text in
    let four = string_bytes c.push_findings.new.text in
    let five = string_bytes c.push_need.new.text in
    let six = string_bytes c.push_votes.new.text in
    let seven = string_bytes c.push_tally.new.text in
    let same = c.facts.view_is in
    let found_is : c.as_slice.result.now ≡ found = c.as_slice.ensures.value ∙ c.in_ok-found.ensures ∙ ap (λ v. findings_of v.base v.shown) same in
    let wide : not c.is_empty.result ≡ is_found found =
    ap not c.is_empty.ensures ∙ ap (λ n. not (n == 0)) (sym c.as_slice.ensures.len) ∙ found_some c.as_slice.result.now
    ∙ ap is_found found_is in
    let head = c.in_ok-push_head.ensures ∙ ap (λ t. t ++ joined (head_lines s)) c.new-text.ensures.bytes in
    let findings = c.in_ok-push_findings.ensures ∙ ap (λ fs. three ++ joined (findings_lines fs)) found_is in
    let caps = c.in_ok-push_caps.ensures ∙ ap (λ v. one ++ joined (caps_lines v.shown.caps)) same in
    let seccomp = c.in_ok-push_seccomp.ensures ∙ ap (λ v. two ++ joined (seccomp_lines v.shown.filter)) same in
    let need = c.in_ok-push_need.ensures ∙ ap (λ l. four ++ joined (lines_by l (not c.is_empty.result)))
    (c.listed_in-listed.ensures ∙ ap (λ v. listed_in v.listed v.shown) same)
    ∙ ap (λ w. four ++ joined (lines_by (listed_in s.listed s.shown) w)) wide in
    let votes = c.in_ok-push_votes.ensures ∙ ap (λ vs. five ++ joined (votes_lines vs)) (c.as_slice-2.ensures.value ∙ ap (λ v. v.votes) same) in
    let tally = c.in_ok-push_tally.ensures ∙ ap (λ vs. six ++ joined (tally_lines vs)) (c.as_slice-3.ensures.value ∙ ap (λ v. v.votes) same) in
    let head_caps = head_lines s ++ caps_lines s.shown.caps in
    let head_seccomp = head_caps ++ seccomp_lines s.shown.filter in
    let head_findings = head_seccomp ++ findings_lines found in
    let head_need = head_findings ++ need_lines s in
    let head_votes = head_need ++ votes_lines s.votes in
    then_lines [] six seven head_votes (tally_lines s.votes)
    (then_lines [] five six head_need (votes_lines s.votes)
    (then_lines [] four five head_findings (need_lines s)
    (then_lines [] three four head_seccomp (findings_lines found)
    (then_lines [] two three head_caps (seccomp_lines s.shown.filter)
    (then_lines [] one two (head_lines s) (caps_lines s.shown.caps) head caps)
    seccomp)
    findings)
    need)
    votes)
    tally
