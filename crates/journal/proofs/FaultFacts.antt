-- Where what is left can be told, no line keeps from it.
use Rattle.std.proofs.Common.{inl, inr, ◌≡◌, ◌∙◌, ◌==◌, ℕ, ◌+◌, List, [], ◌∷◌, ◌++◌, Bool, true, false, length, Option, Some, None, IfSome, refl, sym, ap, ap₂, subst, arith, append_assoc, All}
use Rattle.std.specs.Prelude.{option_and_then}
use Rattle.std.proofs.lemmas.Bool.{eqb-true}
use Rattle.std.proofs.lemmas.List.Elements.{All-head, All-tail}
use Rattle.sealed_log.specs.Sealed.{seal_on, sealed_line}
use Rattle.sealed_log.specs.Told.{told_behind}
use Rattle.sealed_log.proofs.ToldFacts.{told_line, told_nowhere, told_other, told_unended}
use Rattle.sealed_log.specs.Input.{IsOutside}
use Rattle.sealed_log.specs.declared.unreadable.Unreadable.{Unreadable}
use Rattle.sealed_log.specs.declared.unreadable.Unreadable.TheVariants.{NotALine, NoEventBefore, Unsealed, TornLine, Read, NoMemory}
use Rattle.office_policy.specs.History.{Event}
use Rattle.journal.specs.Journal.{IsEntry, settled_if, taken}
use Rattle.journal.specs.Lines.{Line, done, text_of}
use Rattle.journal.specs.Told.{CannotTake, IsStopped, IsTold, Place, Stops, Tells, held_after, seal_behind, text_behind, told}
use Rattle.journal.proofs.FirstFacts.{first_told}
use Rattle.journal.proofs.JournalFacts.{no_line, same_sealed}
use Rattle.journal.proofs.LineFacts.{same_line}
use Rattle.journal.proofs.ToldFacts.{too_short, unsealed_none}

-- ---- one line

cannot_nothing : (fault : Unreadable) (n : ℕ) (last : Option Event) (prior : List ℕ) → CannotTake fault n last prior [] → IsOutside fault
cannot_nothing NotALine n last prior (inl h) = absurd (no_line prior h.body h.rest h.is)
cannot_nothing NotALine n last prior (inr (inl h)) = absurd (too_short h)
cannot_nothing NotALine n last prior (inr (inr h)) = absurd (no_line prior h.body h.rest h.is)
cannot_nothing NoEventBefore n last prior h = absurd (no_line prior h.0.body h.0.rest h.0.is)
cannot_nothing Unsealed n last prior h = absurd (unsealed_none prior h)
cannot_nothing TornLine n last prior h = absurd (h.1 refl)
cannot_nothing Read n last prior h = tt
cannot_nothing (NoMemory _) n last prior h = tt

-- a line that says that one is carried out is taken only behind that one
settled_true : (b : Bool) (e : Event) (t : Option Event × Option Event) → settled_if b e ≡ Some t → b ≡ true
settled_true true e t is = refl
settled_true false e t is = absurd cc

number_taken : (n number : ℕ) (last : Option Event) (t : Option Event × Option Event) → taken n last (done number) ≡ Some t → number ≡ n
number_taken n number None t is = absurd cc
number_taken n number (Some e) t is = eqb-true number n (settled_true (number == n) e t is)

-- a line that can stand in a journal is told
tells_one : (prior : List ℕ) (l : Line) (rest : List ℕ) → IsEntry l → told_behind prior (sealed_line prior (text_of l) ++ rest) ≡ [] → ⊥
tells_one prior l rest entry none =
    let both : text_of l ∷ told_behind (seal_on prior (text_of l)) rest ≡ [] = sym (told_line prior (text_of l) rest entry.body) ∙ none in
    absurd cc

cannot_line : (fault : Unreadable) (n : ℕ) (last : Option Event) (prior : List ℕ) (l : Line) (rest : List ℕ) (t : Option Event × Option Event) → IsEntry l → taken n last l ≡ Some t
    → CannotTake fault n last prior (sealed_line prior (text_of l) ++ rest) → IsOutside fault
cannot_line NotALine n last prior l rest t entry is (inl h) =
    let same = same_sealed prior (text_of l) h.body rest h.rest entry.body h.is_body h.is in
    absurd (h.other l entry.formed (sym same.bodies))
cannot_line NotALine n last prior l rest t entry is (inr (inl h)) =
    absurd (tells_one prior l rest entry (told_nowhere prior (sealed_line prior (text_of l) ++ rest)
    (record { front = h.front; rest = h.rest; is = h.is; none = h.none; ends = inr h.long })))
cannot_line NotALine n last prior l rest t entry is (inr (inr h)) =
    let same = same_sealed prior (text_of l) h.body rest h.rest entry.body h.is_body h.is in
    let one : l ≡ done h.of.number = same_line l (done h.of.number) entry.formed h.of.formed (same.bodies ∙ h.of.says) in
    absurd (h.of.other (number_taken n h.of.number last t (ap (taken n last) (sym one) ∙ is)))
cannot_line NoEventBefore n last prior l rest t entry is h =
    let same = same_sealed prior (text_of l) h.0.body rest h.0.rest entry.body h.0.is_body h.0.is in
    let one : l ≡ h.0.on.line = same_line l h.0.on.line entry.formed h.0.on.formed (same.bodies ∙ h.0.on.says) in
    let none : taken n last l ≡ None = ap₂ (taken n) h.1 one ∙ h.0.on.needs n in
    cc
cannot_line Unsealed n last prior l rest t entry is h =
    absurd (tells_one prior l rest entry (ap (told_behind prior) h.is ∙ told_other prior h.line h.rest h.one h.other))
cannot_line TornLine n last prior l rest t entry is h =
    absurd (tells_one prior l rest entry (told_unended prior (sealed_line prior (text_of l) ++ rest) h.0))
cannot_line Read n last prior l rest t entry is h = tt
cannot_line (NoMemory _) n last prior l rest t entry is h = tt

-- ---- all of them

abbrev KeepsNone : List Line → Type 0
KeepsNone ls =
    (ms : List Line) (before after : ℕ) (held last : Option Event) (prior rest : List ℕ) (es : List (ℕ × Event)) (fault : Unreadable) → All IsEntry ls → All IsEntry ms
    → after ≡ before + length ls
    → text_behind prior ls ++ rest ≡ text_behind prior ms → held_after before held ls ≡ Some last → CannotTake fault after last (seal_behind prior ls) rest → told before held ms ≡ Some es
    → IsOutside fault

none_here : KeepsNone []
none_here [] before after held last prior rest es fault is_l is_m counted same holds cannot tells =
    cannot_nothing fault after last prior (subst (CannotTake fault after last prior) same cannot)
none_here (m ∷ ms) before after held last prior rest es fault is_l is_m counted same holds cannot tells =
    let first = first_told before held m ms es tells in
    let kept : held ≡ last = cc in
    let here : after ≡ before = omega (arith, counted) in
    cannot_line fault after last prior m (text_behind (seal_on prior (text_of m)) ms) first.by (All-head IsEntry m ms is_m)
    (ap₂ (λ (n : ℕ) (h : Option Event). taken n h m) here (sym kept) ∙ first.taken) (subst (CannotTake fault after last prior) same cannot)

none_keeps : (ls : List Line) → KeepsNone ls
none_keeps [] ms before after held last prior rest es fault is_l is_m counted same holds cannot tells =
    none_here ms before after held last prior rest es fault is_l is_m counted same holds cannot tells
none_keeps (l ∷ ls) [] before after held last prior rest es fault is_l is_m counted same holds cannot tells =
    absurd (no_line prior (text_of l) (text_behind (seal_on prior (text_of l)) ls ++ rest)
    (sym same ∙ append_assoc (sealed_line prior (text_of l)) (text_behind (seal_on prior (text_of l)) ls) rest))
none_keeps (l ∷ ls) (m ∷ ms) before after held last prior rest es fault is_l is_m counted same holds cannot tells =
    let l_is = All-head IsEntry l ls is_l in
    let m_is = All-head IsEntry m ms is_m in
    let after_l = text_behind (seal_on prior (text_of l)) ls ++ rest in
    let both : sealed_line prior (text_of l) ++ after_l ≡ sealed_line prior (text_of m) ++ text_behind (seal_on prior (text_of m)) ms =
    sym (append_assoc (sealed_line prior (text_of l)) (text_behind (seal_on prior (text_of l)) ls) rest) ∙ same in
    let sealed = same_sealed prior (text_of l) (text_of m) after_l (text_behind (seal_on prior (text_of m)) ms) l_is.body m_is.body both in
    let one : l ≡ m = same_line l m l_is.formed m_is.formed sealed.bodies in
    let others : after_l ≡ text_behind (seal_on prior (text_of l)) ms = sealed.rests ∙ ap (λ (b : List ℕ). text_behind (seal_on prior b) ms) (sym sealed.bodies) in
    let first = first_told before held m ms es tells in
    let is : taken before held l ≡ Some first.by = ap (taken before held) one ∙ first.taken in
    let holds_then : held_after (before + 1) first.by.1 ls ≡ Some last = sym (ap (λ o. option_and_then (λ t. held_after (before + 1) t.1 ls) o) is) ∙ holds in
    none_keeps ls ms (before + 1) after first.by.1 last (seal_on prior (text_of l)) rest first.rest fault (All-tail IsEntry l ls is_l) (All-tail IsEntry m ms is_m) (omega (arith, counted)) others
    holds_then cannot first.tells

pub no_fault : (p : Place) (after : ℕ) (fault : Unreadable) (es : List (ℕ × Event)) → Stops p after fault → Tells p es → IfSome p.left (λ _. IsOutside fault)
no_fault p after fault es stops tells = at p.left stops tells
  where
    at : (left : Option (List ℕ)) → IfSome left (λ bytes. IsStopped p.taken p.held p.seal bytes after fault) → IfSome left (λ bytes. IsTold p.taken p.held p.seal bytes es)
        → IfSome left (λ _. IsOutside fault)
    at None s t = tt
    at (Some bytes) s t =
        none_keeps s.lines t.lines p.taken after p.held s.last p.seal s.rest es fault s.entries t.entries s.counted (sym s.says ∙ t.says) s.holds s.cannot t.tells
