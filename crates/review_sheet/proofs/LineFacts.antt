-- What the lines of a sheet say of each other.
use Rattle.std.proofs.Common.{◌≡◌, ◌∙◌, ℕ, ◌+◌, Bool, true, false, cond, List, [], ◌∷◌, ◌++◌, map, length, refl, sym, ap, append_assoc, codes, decimal, reverse, take}
use Rattle.std.specs.Prelude.{◌||◌, ◌&&◌, bytes_eq, count_by, fold, not}
use Rattle.std.proofs.lemmas.List.{length-map, reverse-append}
use Rattle.office_words.specs.declared.revision.VoteRow.{VoteRow}
use Rattle.widening.specs.declared.finding.Finding.{Finding}
use Rattle.widening.specs.Findings.{findings_of}
use Rattle.review_sheet.specs.Facts.{SheetValue}
use Rattle.review_sheet.specs.Filters.{seccomp_lines}
use Rattle.review_sheet.specs.Laws.{CountsBelow, CountsVotes, HasPart, indented_first, is_indented, says_approve, says_reject}
use Rattle.profile_text.specs.Profile.{listed_in}
use Rattle.office_words.specs.Votes.{is_approval, is_rejection}
use Rattle.review_sheet.specs.Review.{finding_line, findings_lines, need_text, tally_lines, vote_line, vote_word, votes_lines}
use Rattle.review_sheet.specs.Sets.{caps_lines, set_line}
use Rattle.review_sheet.specs.Sheet.{head_lines, need_at, need_lines, sheet_lines}

-- ---- the lines above the findings, and those above the votes

abbrev above_findings : SheetValue → List (List ℕ)
above_findings s = head_lines s ++ caps_lines s.shown.caps ++ seccomp_lines s.shown.filter

abbrev below_findings : SheetValue → List (List ℕ)
below_findings s = need_lines s ++ votes_lines s.votes ++ tally_lines s.votes

abbrev above_votes : SheetValue → List (List ℕ)
above_votes s = above_findings s ++ findings_lines (findings_of s.base s.shown) ++ need_lines s

around_findings : (s : SheetValue) → sheet_lines s ≡ above_findings s ++ findings_lines (findings_of s.base s.shown) ++ below_findings s
unfolding sheet_lines
around_findings s = simp append_assoc refl

around_need : (s : SheetValue) → sheet_lines s ≡
    (above_findings s ++ findings_lines (findings_of s.base s.shown)) ++ need_lines s ++ (votes_lines s.votes ++ tally_lines s.votes)
unfolding sheet_lines
around_need s = simp append_assoc refl

around_votes : (s : SheetValue) → sheet_lines s ≡ above_votes s ++ votes_lines s.votes ++ tally_lines s.votes
unfolding sheet_lines
around_votes s = simp append_assoc refl

pub findings_part : (s : SheetValue) → HasPart
    ((codes "findings: " ++ decimal (length (findings_of s.base s.shown))) ∷ map finding_line (findings_of s.base s.shown))
    (sheet_lines s)
unfolding findings_lines
findings_part s = record { above = above_findings s; below = below_findings s; whole = around_findings s }

pub need_part : (s : SheetValue) → HasPart
    (set_line (codes "listed") (listed_in s.listed s.shown) ∷ (codes "need: " ++ need_text (need_at s)) ∷ [])
    (sheet_lines s)
unfolding need_lines
need_part s = record {
  above = above_findings s ++ findings_lines (findings_of s.base s.shown);
  below = votes_lines s.votes ++ tally_lines s.votes;
  whole = around_need s;
}

-- ---- indented lines

finding_indented : (f : Finding) → is_indented (finding_line f) ≡ true
finding_indented f = refl

vote_indented : (v : VoteRow) → is_indented (vote_line v) ≡ true
vote_indented v = refl

-- indented lines, up to the next line that isn't
all_indented : {X : Type 0} (f : X → List ℕ) → ((x : X) → is_indented (f x) ≡ true) → (xs : List X) (line : List ℕ) (lines : List (List ℕ))
    → is_indented line ≡ false → indented_first (map f xs ++ (line ∷ lines)) ≡ map f xs
all_indented f each [] line lines other = ap (λ b. cond b (line ∷ indented_first lines) []) other
all_indented f each (x ∷ xs) line lines other =
    ap (λ b. cond b (f x ∷ indented_first (map f xs ++ (line ∷ lines))) []) (each x) ∙ ap (λ ls. f x ∷ ls) (all_indented f each xs line lines other)

-- the number after a label is that of the lines of a list below it
number_below : {X : Type 0} (f : X → List ℕ) → ((x : X) → is_indented (f x) ≡ true)
    → (label : List ℕ) (xs : List X) (line : List ℕ) (above lines : List (List ℕ)) → is_indented line ≡ false
    → above ++ ((label ++ decimal (length xs)) ∷ map f xs) ++ (line ∷ lines)
    ≡ above ++ ((label ++ decimal (length (indented_first (map f xs ++ (line ∷ lines))))) ∷ (map f xs ++ (line ∷ lines)))
number_below f each label xs line above lines other =
    append_assoc above ((label ++ decimal (length xs)) ∷ map f xs) (line ∷ lines)
    ∙ ap (λ n. above ++ ((label ++ decimal n) ∷ (map f xs ++ (line ∷ lines))))
    (sym (length-map xs f) ∙ ap length (sym (all_indented f each xs line lines other)))

pub findings_counted : (s : SheetValue) → CountsBelow (codes "findings: ") (sheet_lines s)
unfolding findings_lines need_lines
findings_counted s =
    let found = findings_of s.base s.shown in
    let line = set_line (codes "listed") (listed_in s.listed s.shown) in
    let lines = ((codes "need: " ++ need_text (need_at s)) ∷ []) ++ votes_lines s.votes ++ tally_lines s.votes in
    record {
      above = above_findings s;
      below = map finding_line found ++ (line ∷ lines);
      whole = around_findings s ∙ number_below finding_line finding_indented (codes "findings: ") found line (above_findings s) lines refl;
    }

pub votes_counted : (s : SheetValue) → CountsBelow (codes "votes: ") (sheet_lines s)
unfolding votes_lines
votes_counted s =
    let line = codes "approvals: " ++ decimal (count_by is_approval s.votes) in
    let lines = (codes "rejections: " ++ decimal (count_by is_rejection s.votes)) ∷ [] in
    record {
      above = above_votes s;
      below = map vote_line s.votes ++ (line ∷ lines);
      whole = around_votes s ∙ number_below vote_line vote_indented (codes "votes: ") s.votes line (above_votes s) lines refl;
    }

-- ---- what votes say

-- the line of a vote from its end
reversed : (voter word mark : List ℕ)
    → reverse (codes "  " ++ voter ++ codes " " ++ word ++ mark) ≡ reverse mark ++ (reverse word ++ (32 ∷ reverse (codes "  " ++ voter)))
reversed voter word mark =
    let name = codes "  " ++ voter in
    reverse-append (name ++ codes " " ++ word) mark
    ∙ ap (λ t. reverse mark ++ t) (reverse-append (name ++ codes " ") word ∙ ap (λ t. reverse word ++ t) (reverse-append name (codes " ")))

-- the test of a line, from its end
abbrev approve_back : List ℕ → Bool
approve_back line = bytes_eq (take 8 line) (reverse (codes " approve")) || bytes_eq (take 17 line) (reverse (codes " approve security"))

abbrev reject_back : List ℕ → Bool
reject_back line = bytes_eq (take 7 line) (reverse (codes " reject")) || bytes_eq (take 16 line) (reverse (codes " reject security"))

approval_said : (voter : List ℕ) (approve security counts : Bool)
    → says_approve (codes "  " ++ voter ++ codes " " ++ vote_word approve ++ cond counts (cond security (codes " security") []) (codes " lapsed"))
    ≡ (counts && approve)
approval_said voter true true true = ap approve_back (reversed voter (codes "approve") (codes " security"))
approval_said voter true false true = ap approve_back (reversed voter (codes "approve") [])
approval_said voter false true true = ap approve_back (reversed voter (codes "reject") (codes " security"))
approval_said voter false false true = ap approve_back (reversed voter (codes "reject") [])
approval_said voter true security false = ap approve_back (reversed voter (codes "approve") (codes " lapsed"))
approval_said voter false security false = ap approve_back (reversed voter (codes "reject") (codes " lapsed"))

rejection_said : (voter : List ℕ) (approve security counts : Bool)
    → says_reject (codes "  " ++ voter ++ codes " " ++ vote_word approve ++ cond counts (cond security (codes " security") []) (codes " lapsed"))
    ≡ (counts && not approve)
rejection_said voter true true true = ap reject_back (reversed voter (codes "approve") (codes " security"))
rejection_said voter true false true = ap reject_back (reversed voter (codes "approve") [])
rejection_said voter false true true = ap reject_back (reversed voter (codes "reject") (codes " security"))
rejection_said voter false false true = ap reject_back (reversed voter (codes "reject") [])
rejection_said voter true security false = ap reject_back (reversed voter (codes "approve") (codes " lapsed"))
rejection_said voter false security false = ap reject_back (reversed voter (codes "reject") (codes " lapsed"))

-- as many lines say something as votes are so, where some were counted before
counted : (says : List ℕ → Bool) (is : VoteRow → Bool) → ((v : VoteRow) → says (vote_line v) ≡ is v) → (before : ℕ) (votes : List VoteRow)
    → fold (λ count v. count + cond (is v) 1 0) before votes ≡ fold (λ count line. count + cond (says line) 1 0) before (map vote_line votes)
counted says is same before [] = refl
counted says is same before (v ∷ votes) =
    ap (λ b. fold (λ count v. count + cond (is v) 1 0) (before + cond b 1 0) votes) (sym (same v))
    ∙ counted says is same (before + cond (says (vote_line v)) 1 0) votes

count_said : (says : List ℕ → Bool) (is : VoteRow → Bool) → ((v : VoteRow) → says (vote_line v) ≡ is v) → (votes : List VoteRow)
    → count_by is votes ≡ count_by says (map vote_line votes)
count_said says is same votes = counted says is same 0 votes

pub votes_said : (s : SheetValue) → CountsVotes (sheet_lines s)
unfolding votes_lines
votes_said s =
    let lines = map vote_line s.votes in
    let approvals : count_by is_approval s.votes ≡ count_by says_approve lines =
    count_said says_approve is_approval (λ v. approval_said v.voter v.approve v.security v.counts) s.votes in
    let rejections : count_by is_rejection s.votes ≡ count_by says_reject lines =
    count_said says_reject is_rejection (λ v. rejection_said v.voter v.approve v.security v.counts) s.votes in
    record {
      above = above_votes s;
      votes = lines;
      whole = around_votes s
          ∙ ap (λ n. above_votes s ++ ((codes "votes: " ++ decimal n) ∷ lines) ++ tally_lines s.votes) (sym (length-map s.votes vote_line))
          ∙ ap (λ n. above_votes s ++ ((codes "votes: " ++ decimal (length lines)) ∷ lines)
          ++ ((codes "approvals: " ++ decimal n) ∷ (codes "rejections: " ++ decimal (count_by is_rejection s.votes)) ∷ [])) approvals
          ∙ ap (λ n. above_votes s ++ ((codes "votes: " ++ decimal (length lines)) ∷ lines)
          ++ ((codes "approvals: " ++ decimal (count_by says_approve lines)) ∷ (codes "rejections: " ++ decimal n) ∷ [])) rejections;
    }
