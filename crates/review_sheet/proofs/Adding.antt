-- Texts that gain lines at their end.
use Rattle.std.proofs.Common.{◌≡◌, ◌∙◌, ℕ, suc, ◌+◌, ◌<◌, ◌≤◌, List, [], ◌∷◌, ◌++◌, length, get_or, drop, sym, ap, append_assoc, arith, codes, drop-cons, refl}
use Rattle.std.proofs.lemmas.Bool.{ne_eqb}
use Rattle.std.proofs.lemmas.Grind.{flat_map-append}
use Rattle.std.proofs.lemmas.List.{append-nil, drop_all}
use Rattle.std.specs.Prelude.{◌==◌, not}
use Rattle.seccomp_doc.specs.Filter.{EntryValue}
use Rattle.widening.specs.declared.finding.Finding.{Finding}
use Rattle.widening.specs.Findings.{is_found}
use Rattle.review_sheet.specs.Filters.{entries_lines, entry_lines}
use Rattle.review_sheet.specs.Layout.{ended, items_text, joined, spaced}

-- lines, and then others
pub then_lines : (start mid end : List ℕ) (xs ys : List (List ℕ)) → mid ≡ start ++ joined xs → end ≡ mid ++ joined ys → end ≡ start ++ joined (xs ++ ys)
then_lines start mid end xs ys first others =
    others ∙ ap (λ t. t ++ joined ys) first ∙ append_assoc start (joined xs) (joined ys)
    ∙ ap (λ t. start ++ t) (sym (flat_map-append ended xs ys))

-- one line, and then others
pub line_then : (start mid end line : List ℕ) (lines : List (List ℕ)) → mid ≡ start ++ ended line → end ≡ mid ++ joined lines
    → end ≡ start ++ joined (line ∷ lines)
line_then start mid end line lines first others = others ∙ ap (λ t. t ++ joined lines) first ∙ append_assoc start (ended line) (joined lines)

-- one line and no more
pub last_line : (start end line : List ℕ) → end ≡ start ++ ended line → end ≡ start ++ joined (line ∷ [])
last_line start end line only = only ∙ ap (λ t. start ++ t) (sym (append-nil (ended line)))

pub two_lines : (start a b x y : List ℕ) → a ≡ start ++ ended x → b ≡ a ++ ended y → b ≡ start ++ joined (x ∷ y ∷ [])
two_lines start a b x y p q = line_then start a b x (y ∷ []) p (last_line a b y q)

pub three_lines : (start a b c x y z : List ℕ) → a ≡ start ++ ended x → b ≡ a ++ ended y → c ≡ b ++ ended z → c ≡ start ++ joined (x ∷ y ∷ z ∷ [])
three_lines start a b c x y z p q r = line_then start a c x (y ∷ z ∷ []) p (two_lines a b c y z q r)

-- an entry more: what is written and what is left are the whole
pub entry_more : (whole old new : List ℕ) (entries : List EntryValue) (i : ℕ) (e : EntryValue) → i < length entries → e ≡ get_or entries i e
    → old ++ joined (entries_lines (i + 1) (drop i entries)) ≡ whole → new ≡ old ++ joined (entry_lines (i + 1) e)
    → new ++ joined (entries_lines (i + 1 + 1) (drop (i + 1) entries)) ≡ whole
entry_more whole old new entries i e within is so_far added =
    let next : suc i ≡ i + 1 = omega arith in
    let rest : List (List ℕ) = entries_lines (i + 1 + 1) (drop (i + 1) entries) in
    let left : drop i entries ≡ e ∷ drop (i + 1) entries =
    drop-cons entries i e within ∙ ap (λ x. x ∷ drop (suc i) entries) (sym is) ∙ ap (λ n. e ∷ drop n entries) next in
    let lines : joined (entries_lines (i + 1) (drop i entries)) ≡ joined (entry_lines (i + 1) e) ++ joined rest =
    ap (λ es. joined (entries_lines (i + 1) es)) left ∙ flat_map-append ended (entry_lines (i + 1) e) rest in
    ap (λ t. t ++ joined rest) added ∙ append_assoc old (joined (entry_lines (i + 1) e)) (joined rest) ∙ ap (λ t. old ++ t) (sym lines) ∙ so_far

-- no entry is left
pub entries_end : (whole now : List ℕ) (entries : List EntryValue) (i : ℕ) → length entries ≤ i
    → now ++ joined (entries_lines (i + 1) (drop i entries)) ≡ whole → now ≡ whole
entries_end whole now entries i all so_far =
    sym (append-nil now) ∙ ap (λ es. now ++ joined (entries_lines (i + 1) es)) (sym (drop_all i entries all)) ∙ so_far

-- something is found where the list isn't empty
pub found_some : (found : List Finding) → not (length found == 0) ≡ is_found found
found_some [] = refl
found_some (f ∷ found) = ap not (ne_eqb (suc (length found)) 0 (λ same. absurd (omega (arith, same))))

-- a list with its first item written, and then the others
pub list_begun : (start mid end first : List ℕ) (items rest : List (List ℕ)) → items ≡ first ∷ rest
    → mid ≡ start ++ first → end ≡ mid ++ spaced rest → end ≡ start ++ items_text items
list_begun start mid end first items rest begins one others =
    others ∙ ap (λ t. t ++ spaced rest) one ∙ append_assoc start first (spaced rest) ∙ ap (λ is. start ++ items_text is) (sym begins)

-- the words of a capability, in two parts
pub capability_words : (start mid end set name : List ℕ) → mid ≡ start ++ (codes "capability " ++ (set ++ codes " ")) → end ≡ mid ++ ended name
    → end ≡ start ++ ended (codes "capability " ++ set ++ codes " " ++ name)
capability_words start mid end set name one others =
    others ∙ ap (λ t. t ++ ended name) one ∙ append_assoc start (codes "capability " ++ (set ++ codes " ")) (ended name)
    ∙ ap (λ t. start ++ t) (simp append_assoc refl)
