-- Texts that gain parts at their end.
use Rattle.std.proofs.Common.{◌≡◌, ◌∙◌, ◌==◌, ℕ, ◌+◌, ◌<◌, ◌≤◌, List, [], ◌∷◌, ◌++◌, true, false, cond, length, get_or, drop, map, codes, refl, sym, ap, arith, append_assoc, append-nil, length-append}
use Rattle.std.proofs.lemmas.Bool.{ne_eqb}
use Rattle.std.proofs.lemmas.List.{drop_all, drop_more}
use Rattle.std.specs.Prelude.{filter, if◌then◌else◌}
use Rattle.office_words.specs.Role.{has_role}
use Rattle.office_words.specs.WordTables.{role_word}
use Rattle.office_words.specs.declared.role.Role.{Role}
use Rattle.review_sheet.specs.Layout.{spaced}
use Rattle.office_words.specs.WordTables.{words_among}
use Rattle.journal_reports.specs.Lines.{each_spaced}

-- a part, and then another
pub then_part : (start mid end a b : List ℕ) → mid ≡ start ++ a → end ≡ mid ++ b → end ≡ start ++ (a ++ b)
then_part start mid end a b one other = other ∙ ap (λ t. t ++ b) one ∙ append_assoc start a b

-- three parts
pub three_parts : (start x y end a b c : List ℕ) → x ≡ start ++ a → y ≡ x ++ b → end ≡ y ++ c → end ≡ start ++ (a ++ b ++ c)
three_parts start x y end a b c p q r = then_part start y end (a ++ b) c (then_part start x y a b p q) r

-- the words of a founding
pub founding_words : (start one u t user team : List ℕ) → one ≡ start ++ (u ++ (codes " founded " ++ (t ++ codes ", listed"))) → u ≡ user → t ≡ team
    → one ≡ start ++ (user ++ codes " founded " ++ team ++ codes ", listed")
founding_words start one u t user team is users teams =
    is ∙ (λ i. start ++ (users i ++ (codes " founded " ++ (teams i ++ codes ", listed")))) ∙ ap (λ x. start ++ x) (simp append_assoc refl)

-- and of an enrolment
pub enrolment_words : (start one c u t caller user team : List ℕ) → one ≡ start ++ (c ++ (codes " enrolled " ++ (u ++ (codes " of " ++ (t ++ codes ":"))))) → c ≡ caller → u ≡ user → t ≡ team
    → one ≡ start ++ (caller ++ codes " enrolled " ++ user ++ codes " of " ++ team ++ codes ":")
enrolment_words start one c u t caller user team is callers users teams =
    is ∙ (λ i. start ++ (callers i ++ (codes " enrolled " ++ (users i ++ (codes " of " ++ (teams i ++ codes ":"))))))
    ∙ ap (λ x. start ++ x) (simp append_assoc refl)

same_length : (n : ℕ) → (n == n) ≡ true
same_length n = grind arith

-- items, each behind a space, or `none` where the text is as long as it was
pub or_none : (start mid end : List ℕ) (length_before : ℕ) (items : List (List ℕ)) → length_before ≡ length start → mid ≡ start ++ spaced items
    → end ≡ mid ++ (if length mid == length_before then codes " none" else []) → end ≡ start ++ each_spaced items
or_none start mid end before [] is same added =
    let whole : mid ≡ start = same ∙ append-nil start in
    let long : (length mid == before) ≡ true = ap (λ l. length l == before) whole ∙ ap (λ n. length start == n) is ∙ same_length (length start) in
    added ∙ ap (λ b. mid ++ (if b then codes " none" else [])) long ∙ ap (λ t. t ++ codes " none") whole
or_none start mid end before (item ∷ items) is same added =
    let more : length mid ≡ length start + length (spaced (item ∷ items)) = ap length same ∙ length-append start (spaced (item ∷ items)) in
    let longer : (length mid == before) ≡ false = ne_eqb (length mid) before (λ even. absurd (omega (arith, more, is, even))) in
    added ∙ ap (λ b. mid ++ (if b then codes " none" else [])) longer ∙ append-nil mid ∙ same

-- the words of roles, one more
role_step : (roles : ℕ) (r : Role) (rest : List Role) → spaced (words_among roles (r ∷ rest)) ≡ spaced (words_among roles (r ∷ [])) ++ spaced (words_among roles rest)
role_step roles r rest =
    elim (has_role roles r) as (λ b. spaced (map role_word (cond b (r ∷ filter (has_role roles) rest) (filter (has_role roles) rest)))
    ≡ spaced (map role_word (cond b (r ∷ []) [])) ++ spaced (map role_word (filter (has_role roles) rest))) [
      | true ↦ ap (λ w. w ++ spaced (map role_word (filter (has_role roles) rest))) (sym (append-nil (32 ∷ role_word r)))
      | false ↦ refl
    ]

pub role_more : (roles : ℕ) (among : List Role) (i : ℕ) (d : Role) (old new all : List ℕ) → i < length among
    → old ++ spaced (words_among roles (drop i among)) ≡ all → new ≡ old ++ spaced (words_among roles (get_or among i d ∷ []))
    → new ++ spaced (words_among roles (drop (i + 1) among)) ≡ all
role_more roles among i d old new all lt before is =
    let r = get_or among i d in
    let rest = spaced (words_among roles (drop (i + 1) among)) in
    ap (λ t. t ++ rest) is ∙ append_assoc old (spaced (words_among roles (r ∷ []))) rest
    ∙ ap (λ t. old ++ t) (sym (role_step roles r (drop (i + 1) among)) ∙ ap (λ l. spaced (words_among roles l)) (sym (drop_more among i d lt)))
    ∙ before

pub roles_end : (roles : ℕ) (among : List Role) (i : ℕ) (old all : List ℕ) → length among ≤ i → old ++ spaced (words_among roles (drop i among)) ≡ all → old ≡ all
roles_end roles among i old all ge before =
    sym (append-nil old) ∙ ap (λ rs. old ++ spaced (words_among roles rs)) (sym (drop_all i among ge)) ∙ before
