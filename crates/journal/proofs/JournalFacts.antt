-- The text of a journal is that of one list of lines.
use Rattle.std.proofs.Common.{◌≡◌, ◌∙◌, ℕ, List, [], ◌∷◌, ◌++◌, length, map, Option, Some, refl, sym, ap, ap₂, subst, arith, drop, length-append, All}
use Rattle.std.proofs.lemmas.List.{drop_at}
use Rattle.std.proofs.lemmas.List.Elements.{All-cons, All-head, All-nil, All-tail}
use Rattle.sealed_log.specs.Sealed.{IsBody, seal_on, sealed_line, sealed_text}
use Rattle.sealed_log.specs.Told.{told, told_behind}
use Rattle.sealed_log.proofs.SealFacts.{length-sealed_line}
use Rattle.sealed_log.proofs.ToldFacts.{told_line, told_text}
use Rattle.office_policy.specs.History.{History}
use Rattle.journal.specs.Journal.{IsEntry, IsJournalOf, Says, history_in}
use Rattle.journal.specs.Lines.{Line, text_of}
use Rattle.journal.proofs.LineFacts.{same_line}

-- no sealed line is empty
pub no_line : (prior body rest : List ℕ) → [] ≡ sealed_line prior body ++ rest → ⊥
no_line prior body rest same =
    let long = ap length same in
    omega (arith, long, length-append (sealed_line prior body) rest, length-sealed_line prior body)

-- bytes begin with one sealed line at most
pub record AreSame (a b x y : List ℕ) : Type 0 where
  pub bodies : a ≡ b
  pub rests : x ≡ y

pub same_sealed : (prior a b x y : List ℕ) → IsBody a → IsBody b → sealed_line prior a ++ x ≡ sealed_line prior b ++ y → AreSame a b x y
same_sealed prior a b x y is_a is_b same =
    let told_both : a ∷ told_behind (seal_on prior a) x ≡ b ∷ told_behind (seal_on prior b) y =
    sym (told_line prior a x is_a) ∙ ap (told_behind prior) same ∙ told_line prior b y is_b in
    let bodies : a ≡ b = cc in
    record {
      bodies = bodies;
      rests =
          sym (drop_at (sealed_line prior a) x (length (sealed_line prior a)) refl)
          ∙ ap₂ drop (ap (λ (c : List ℕ). length (sealed_line prior c)) bodies) same
          ∙ drop_at (sealed_line prior b) y (length (sealed_line prior b)) refl;
    }

-- the bodies of lines that can stand in a journal
pub all_bodies : (lines : List Line) → All IsEntry lines → All IsBody (map text_of lines)
all_bodies [] are = All-nil IsBody
all_bodies (l ∷ ls) are =
    All-cons IsBody (text_of l) (map text_of ls) (All-head IsEntry l ls are).body (all_bodies ls (All-tail IsEntry l ls are))

pub same_texts : (ls ms : List Line) → All IsEntry ls → All IsEntry ms → map text_of ls ≡ map text_of ms → ls ≡ ms
same_texts [] [] is_l is_m same = refl
same_texts [] (m ∷ ms) is_l is_m same = absurd cc
same_texts (l ∷ ls) [] is_l is_m same = absurd cc
same_texts (l ∷ ls) (m ∷ ms) is_l is_m same =
    let l_is = All-head IsEntry l ls is_l in
    let m_is = All-head IsEntry m ms is_m in
    let first : text_of l ≡ text_of m = cc in
    let rest : map text_of ls ≡ map text_of ms = cc in
    ap₂ (λ x xs. x ∷ xs) (same_line l m l_is.formed m_is.formed first) (same_texts ls ms (All-tail IsEntry l ls is_l) (All-tail IsEntry m ms is_m) rest)

-- bodies are those of one history
pub says_one : (bodies : List (List ℕ)) (g h : History) → Says bodies g → Says bodies h → g ≡ h
says_one bodies g h a b =
    let lines = same_texts a.lines b.lines a.entries b.entries (sym a.are ∙ b.are) in
    let both : ◌≡◌ {A = Option History} (Some g) (Some h) = sym a.history ∙ ap history_in lines ∙ b.history in
    cc

pub bodies_of_says : (bodies : List (List ℕ)) (h : History) → Says bodies h → All IsBody bodies
bodies_of_says bodies h says = subst (All IsBody) (sym says.are) (all_bodies says.lines says.entries)

-- a text is that of one list of bodies
pub one_text : (a b : List (List ℕ)) → All IsBody a → All IsBody b → sealed_text a ≡ sealed_text b → a ≡ b
one_text a b is_a is_b same = sym (told_text a is_a) ∙ ap told same ∙ told_text b is_b

pub one_history : (text : List ℕ) (g h : History) → IsJournalOf text g → IsJournalOf text h → g ≡ h
one_history text g h a b =
    let same = one_text a.bodies b.bodies (bodies_of_says a.bodies g a.says) (bodies_of_says b.bodies h b.says) (sym a.is ∙ b.is) in
    says_one b.bodies g h (subst (λ (l : List (List ℕ)). Says l g) same a.says) b.says
