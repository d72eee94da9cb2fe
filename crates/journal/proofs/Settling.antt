-- The line that says that the last event is carried out, behind that of the event.
use Rattle.std.proofs.Common.{inl, inr, ◌⊎◌, ◌≡◌, ◌≢◌, ◌∙◌, ◌≤◌, ◌<◌, ◌-◌, ◌^◌, ◌==◌, [], ◌∷◌, ◌++◌, ℕ, List, Bool, true, false, not, if◌then◌else◌, Option, Some, None, Result, Ok, Err, IsTrue, length, refl, sym, ap, subst, arith, append-nil}
use Rattle.std.specs.Prelude.{⊤}
use Rattle.std.proofs.lemmas.Bool.{and_parts, and_from, eq-eqb, eqb-true}
use Rattle.office_words.specs.declared.fault.Fault.{Fault}
use Rattle.office_words.specs.declared.fault.Fault.TheVariants as faults
use Rattle.office_policy.specs.History.{Event, History}
use Rattle.office_policy.specs.Meaning.{Meaning}
use Rattle.office_policy.specs.Handled.{Survives}
use Rattle.office_policy.proofs.SurvivalFacts.{survives_none}
use Rattle.journal.specs.Journal.{EndsWithEvent, Says}
use Rattle.journal.specs.Lines.{done, text_of}
use Rattle.journal.specs.declared.journaled.Journaled.{Journaled}
use Rattle.journal.specs.Begun.{IsEnding, done_bodies}
use Rattle.journal.specs.Journals.{BeginsWith, HasAsStray, IsOf, IsSettled, goes_on, is_clean, journaled, stops, unsettled}
use Rattle.journal.specs.Writing.{IsAppended, IsLeftIn, IsLeftInPart, Writing}
use Rattle.journal.proofs.Offices.{none_fewer, open_of, risen_second}
use Rattle.journal.proofs.Texts.{one_done}
use Rattle.no_memory.specs.Witness.{witness}

-- ---- which line says it

-- where a line has a number it is that of the last one, and no line says what became of its event
pub record IsLast {O J : Type 0} (w : Writing J) (x : Journaled O J) (number : ℕ) : Type 0 where
  pub unsaid : x.is_settled ≡ false
  pub counted : number ≡ w.lines x.journal
  pub few : number ≢ 2 ^ 64 - 1

-- and where none has, one says so, or they are more than can be counted
abbrev pub IsNotLast : {O J : Type 0} (w : Writing J) (x : Journaled O J) → Type 0
IsNotLast w x = (x.is_settled ≡ true) ⊎ (2 ^ 64 - 1 ≤ w.lines x.journal)

abbrev IsLastOrNot : {O J : Type 0} (w : Writing J) (x : Journaled O J) → Option ℕ → Type 0
IsLastOrNot w x None = IsNotLast w x
IsLastOrNot w x (Some number) = IsLast w x number

last_or_not : {O J : Type 0} (w : Writing J) (x : Journaled O J) (settled full : Bool) → x.is_settled ≡ settled → (w.lines x.journal == 2 ^ 64 - 1) ≡ full
    → IsLastOrNot w x (if settled then None else if full then None else Some (w.lines x.journal))
last_or_not w x true full is all = inl is
last_or_not w x false true is all =
    let same : w.lines x.journal ≡ 2 ^ 64 - 1 = eqb-true (w.lines x.journal) (2 ^ 64 - 1) all in
    inr (omega (arith, same))
last_or_not w x false false is all = record {
  unsaid = is;
  counted = refl;
  few = λ same. absurd (let c : true ≡ false = sym (eq-eqb (w.lines x.journal) (2 ^ 64 - 1) same) ∙ all in cc);
}

found : {O J : Type 0} (w : Writing J) (x : Journaled O J) → IsLastOrNot w x (unsettled w x)
found w x = last_or_not w x x.is_settled (w.lines x.journal == 2 ^ 64 - 1) refl refl

pub is_last : {O J : Type 0} (w : Writing J) (x : Journaled O J) (number : ℕ) → Some number ≡ unsettled w x → IsLast w x number
is_last w x number is = subst (IsLastOrNot w x) (sym is) (found w x)

pub is_not_last : {O J : Type 0} (w : Writing J) (x : Journaled O J) → None ≡ unsettled w x → IsNotLast w x
is_not_last w x is = subst (IsLastOrNot w x) (sym is) (found w x)

-- ---- what is said with it

module _ {O J : Type 0} (m : Meaning O) (w : Writing J) (x : Journaled O J) (goes : IsTrue (goes_on m w x)) (h : History) (of : IsOf m w h x) (clean : is_clean m w x) where
  said_with : (last : Option ℕ) → IsLastOrNot w x last → Says (w.bodies x.journal ++ done_bodies last) h
  said_with None is = subst (λ (b : List (List ℕ)). Says b h) (sym (append-nil (w.bodies x.journal))) (of.says clean goes)
  said_with (Some number) is =
      let all = w.counted x.journal clean.1 (open_of m w x goes) in
      let same = is.counted in
      let few = is.few in
      let counted : number ≡ length (w.bodies x.journal) = omega (arith, all, same, few) in
      let small : length (w.bodies x.journal) < 2 ^ 64 = omega (arith, all, same, few) in
      subst (λ n. Says (w.bodies x.journal ++ text_of (done n) ∷ []) h) (sym counted)
      (one_done (w.bodies x.journal) h (of.says clean goes) (of.ends clean goes is.unsaid) small)

  -- the history, where the last event is said to be carried out
  pub settled_says : Says (w.bodies x.journal ++ done_bodies (unsettled w x)) h
  settled_says = said_with (unsettled w x) (found w x)

module _ {O J : Type 0} (m : Meaning O) (w : Writing J) (x : Journaled O J) where
  -- nothing is written
  unchanged : (IsTrue (goes_on m w x) → IsNotLast w x) → IsSettled m w x x (Ok tt)
  unchanged settled = record {
    office = refl;
    survives = survives_none (journaled m w) x;
    of = λ h of. of;
    settled = λ goes. (goes, settled goes);
    asked = tt;
    bodies = λ clean goes. inl refl;
    failed = tt;
    cause = tt;
    crash = λ clean left may. inl may;
  }

  pub none_last : None ≡ unsettled w x → IsSettled m w x x (Ok tt)
  none_last none = unchanged (λ goes. is_not_last w x none)

  pub no_text : IsTrue (goes_on m w x) → x.is_settled ≡ false → IsSettled m w x x (Err (faults.NoMemory witness))
  no_text goes unsaid = record {
    office = refl;
    survives = survives_none (journaled m w) x;
    of = λ h of. of;
    settled = tt;
    asked = (goes, unsaid);
    bodies = λ clean goes. inl refl;
    failed = λ clean goes. refl;
    cause = λ clean. tt;
    crash = λ clean left may. inl may;
  }

  module _ (goes : IsTrue (goes_on m w x)) (of_line : ℕ) (last : IsLast w x of_line) (fits : of_line < 2 ^ 64) (body : List ℕ) (said : body ≡ text_of (done of_line)) where
    is_open : IsTrue (w.is_open x.journal)
    is_open = open_of m w x goes

    has_room : IsTrue (not x.has_stray)
    has_room = (and_parts (w.is_open x.journal) _ goes).1

    -- the number of the last line
    number : w.is_clean x.journal → of_line ≡ length (w.bodies x.journal)
    number clean =
        let all = w.counted x.journal clean is_open in
        let counted = last.counted in
        let few = last.few in
        omega (arith, all, counted, few, fits)

    small : w.is_clean x.journal → length (w.bodies x.journal) < 2 ^ 64
    small clean = let all = number clean in omega (arith, all, fits)

    with_body : w.is_clean x.journal → (bodies : List (List ℕ)) → bodies ≡ w.bodies x.journal ++ body ∷ [] → bodies ≡ w.bodies x.journal ++ text_of (done (length (w.bodies x.journal))) ∷ []
    with_body clean bodies is = is ∙ ap (λ b. w.bodies x.journal ++ b ∷ []) (said ∙ ap (λ n. text_of (done n)) (number clean))

    says_on : (h : History) → IsOf m w h x → is_clean m w x → (bodies : List (List ℕ)) → bodies ≡ w.bodies x.journal ++ body ∷ [] → Says bodies h
    says_on h of clean bodies is =
        subst (λ (b : List (List ℕ)). Says b h) (sym (with_body clean.1 bodies is))
        (one_done (w.bodies x.journal) h (of.says clean goes) (of.ends clean goes last.unsaid) (small clean.1))

    -- what is left of the line
    part_left : (h : History) → IsOf m w h x → is_clean m w x → (file : List ℕ) → IsLeftInPart w x.journal [] body file → IsEnding h file
    part_left h of clean file part = record {
      before = w.bodies x.journal;
      says = of.says clean goes;
      number = of_line;
      with_done = says_on h of clean (w.bodies x.journal ++ text_of (done of_line) ∷ []) (ap (λ b. w.bodies x.journal ++ b ∷ []) (sym said));
      left = subst (λ b. IsLeftIn (w.bodies x.journal) [] b file) said part.left;
    }

    module _ (j : J) (settled : Bool) (result : Result ⊤ Fault) (appended : IsAppended w x.journal j [] body result) where
      abbrev new : Journaled O J
      new = record { office = x.office; journal = j; has_stray = x.has_stray; is_settled = settled }

      -- a stray of its office is one still, and it has no other
      stays_stray : (e : Event) → HasAsStray m w e x → HasAsStray m w e new
      stays_stray e (inl within) = inl within
      stays_stray e (inr last) = absurd (stops m w x last.stray goes)

      survives : (w.is_clean j → IsTrue (goes_on m w new) → BeginsWith (w.bodies x.journal) (w.bodies j)) → Survives (journaled m w) x new
      survives begins = record {
        clean = λ clean. (clean.0, appended.clean clean.1);
        counts = let counts = appended.counts in omega (arith, counts);
        closes = λ clean stood. elim (appended.closes clean.1 is_open) [
          | inl stays ↦ inl (stood.0, and_from (w.is_open j) _ stays has_room)
          | inr more ↦ inr (inl (risen_second (m.faults x.office) (w.faults x.journal) (m.faults x.office) (w.faults j) (none_fewer (m.faults x.office)) more))
        ];
        shut = λ clean stood. (stood.0, goes);
        stays = stays_stray;
        grows = λ clean. record {
          bodies = λ on. (goes, begins clean.1 on);
          files = λ file may. elim (appended.crash clean.1 file may) [
            | inl before ↦ inl before
            | inr part ↦ inr (goes, record { more = part.left.tail; is = part.left.is })
          ];
        };
      }

      left_before : is_clean m w new → (left : m.Left × List ℕ) → (journaled m w).may_leave new left
          → (journaled m w).may_leave x left ⊎ (m.may_leave x.office left.0 × ((h : History) → IsOf m w h x → IsEnding h left.1))
      left_before clean left may = elim (appended.crash clean.1 left.1 may.1) [
        | inl before ↦ inl (may.0, before)
        | inr part ↦ inr (may.0, λ h of. part_left h of (clean.0, appended.clean clean.1) left.1 part)
      ]

    pub not_written : (j : J) (fault : Fault) (appended : IsAppended w x.journal j [] body (Err fault))
        → IsSettled m w x (record { office = x.office; journal = j; has_stray = x.has_stray; is_settled = x.is_settled }) (Err fault)
    not_written j fault appended =
        let left : Journaled O J = record { office = x.office; journal = j; has_stray = x.has_stray; is_settled = x.is_settled } in
        let same : w.is_clean j → IsTrue (goes_on m w left) → w.bodies j ≡ w.bodies x.journal = λ clean on. appended.written.0 clean (open_of m w left on) in
        let still : (h : History) → IsOf m w h x → IsOf m w h left = λ h of. record {
          office = of.office;
          says = λ clean on. subst (λ b. Says b h) (sym (same clean.1 on)) (of.says (clean.0, appended.clean clean.1) goes);
          ends = λ clean on is. subst EndsWithEvent (sym (same clean.1 on)) (of.ends (clean.0, appended.clean clean.1) goes is);
        } in
        record {
          office = refl;
          survives = survives j x.is_settled (Err fault) appended (λ clean on. record { more = []; is = same clean on ∙ sym (append-nil (w.bodies x.journal)) });
          of = still;
          settled = tt;
          asked = (goes, last.unsaid);
          bodies = λ clean on. inl (same clean on);
          failed = same;
          cause = λ clean. appended.written.1 clean;
          crash = left_before j x.is_settled (Err fault) appended;
        }

    pub written : (j : J) (appended : IsAppended w x.journal j [] body (Ok tt))
        → IsSettled m w x (record { office = x.office; journal = j; has_stray = x.has_stray; is_settled = true }) (Ok tt)
    written j appended =
        let left : Journaled O J = record { office = x.office; journal = j; has_stray = x.has_stray; is_settled = true } in
        let still : (h : History) → IsOf m w h x → IsOf m w h left = λ h of. record {
          office = of.office;
          says = λ clean on. says_on h of (clean.0, appended.clean clean.1) (w.bodies j) (appended.written.1 clean.1);
          ends = λ clean on is. absurd (let c : true ≡ false = is in cc);
        } in
        record {
          office = refl;
          survives = survives j true (Ok tt) appended (λ clean on. record { more = body ∷ []; is = appended.written.1 clean });
          of = still;
          settled = λ on. (and_from (w.is_open j) _ appended.written.0 has_room, inl refl);
          asked = tt;
          bodies = λ clean on. inr (with_body (appended.clean clean) (w.bodies j) (appended.written.1 clean));
          failed = tt;
          cause = tt;
          crash = left_before j true (Ok tt) appended;
        }
