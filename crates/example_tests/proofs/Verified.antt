-- An office that was verified with the journal of its founding.
use Rattle.std.proofs.Common.{◌≡◌, ◌∙◌, ◌≤◌, ◌<◌, ℕ, pos, List, [], ◌∷◌, Option, Some, None, length, refl, sym, ap, subst, arith}
use Rattle.sqlite.specs.declared.types.Value.{Value}
use Rattle.sqlite.specs.declared.types.Value.TheVariants.{Int}
use Rattle.sqlite.specs.Held.{Held, state}
use Rattle.sqlite.specs.Order.{Row}
use Rattle.sqlite.specs.Store.{Ghosts}
use Rattle.sqlite_value.specs.Order.{column}
use Rattle.sealed_log.specs.Sealed.{no_seal, seal_of}
use Rattle.sealed_log.specs.Told.{told}
use Rattle.sealed_log.proofs.SealFacts.{length-last_seal, length-no_seal}
use Rattle.office_policy.specs.Handled.{Stands}
use Rattle.office_policy.specs.History.{History}
use Rattle.office_policy.specs.Lawful.{IsLawfulHistory}
use Rattle.office_policy.specs.TablesOf.{tables_of}
use Rattle.office_store.specs.Shown.{Shows, office_row}
use Rattle.review_office.specs.Meant.{meaning_over}
use Rattle.journal.specs.Journal.{IsJournalOf}
use Rattle.journal.proofs.JournalFacts.{one_history}
use Rattle.journal_verification.specs.declared.verification.KeptSeal.{KeptSeal}
use Rattle.journal_verification.specs.declared.verification.Verified.{Verified}
use Rattle.journal_verification.specs.KeptSeals.{HaveSeal}
use Rattle.journal_faults.specs.declared.difference.Difference.{Difference}
use Rattle.journal_verification.specs.Different.{DifferAt}
use Rattle.journal_verification.specs.Verified.{HasOtherSeal, IsAhead, IsOther, IsVerified}
use Rattle.example_tests.specs.Examples.{founding}
use Rattle.example_tests.specs.JournalExamples.{first_line, first_text, kept_seal, verified}
use Rattle.example_tests.proofs.Founded.{is_lawful}
use Rattle.example_tests.proofs.Lines.{first_says, nothing_said, told_first}

-- ---- the journal

abbrev first_journal : IsJournalOf first_text founding
first_journal = record { bodies = first_line; is = refl; says = first_says }

one_told : length (told first_text) ≡ 1
one_told = ap (λ (l : List (List ℕ)). length l) told_first

-- a seal has 64 digits
pub no_seal_of : (bodies : List (List ℕ)) → [] ≡ seal_of bodies → ⊥
no_seal_of bodies is =
    let size : 0 ≡ length (seal_of bodies) = ap (λ (l : List ℕ). length l) is in
    omega (arith, size, length-last_seal no_seal bodies length-no_seal)

pub keeps_first : HaveSeal (Some (kept_seal 1 first_line)) first_line
keeps_first = (omega arith, refl)

keeps_told : HaveSeal (Some (kept_seal 1 first_line)) (told first_text)
keeps_told = subst (HaveSeal (Some (kept_seal 1 first_line))) (sym told_first) keeps_first

pub too_few : HasOtherSeal (Some first_text) (Some (kept_seal 2 first_line))
too_few = record {
  history = founding;
  journal = first_journal;
  lawful = is_lawful;
  other = λ have. let few = have.0 in omega (arith, few, one_told);
}

pub never_other_seal : HasOtherSeal (Some first_text) (Some (kept_seal 1 first_line)) → ⊥
never_other_seal has = has.other keeps_told

-- ---- the office

abbrev number_of : Value → ℕ
number_of (Int (pos n)) = n
number_of _ = 0

abbrev pub listed_in : List Row → ℕ
listed_in [] = 0
listed_in (row ∷ more) = number_of (column row 3)

module _ {S : Type 0} (g : Ghosts S) (office : Held S) where
  pub is_verified : (kept : Option KeptSeal) (mark : ℕ) → HaveSeal kept (told first_text) → mark ≤ 1 → Shows (state g office) (tables_of founding) → Stands (meaning_over g) founding office
      → IsVerified (Some first_text) g kept mark office (verified 1 1)
  is_verified kept mark has below shows stands = record {
    history = founding;
    journal = record { journal = first_journal; sealed = refl };
    counted = refl;
    lined = sym one_told;
    same_seal = has;
    marked = below;
    lawful = is_lawful;
    shows = shows;
    stands = stands;
  }

  pub verified_with_kept : Shows (state g office) (tables_of founding) → Stands (meaning_over g) founding office → IsVerified (Some first_text) g (Some (kept_seal 1 first_line)) 0 office (verified 1 1)
  verified_with_kept = is_verified (Some (kept_seal 1 first_line)) 0 keeps_told (omega arith)

  -- the tables of a history that has the journal list five capabilities
  lists_five : (history : History) → IsJournalOf first_text history → Shows (state g office) (tables_of history) → (state g office).now.trees 0 ≡ office_row 6 ∷ [] → ⊥
  lists_five history journal shows row =
      let same = one_history first_text history founding journal first_journal in
      let rows = sym row ∙ shows.office.office in
      let listed : 6 ≡ (tables_of history).listed = ap listed_in rows in
      let five : (tables_of history).listed ≡ 5 = ap (λ h. (tables_of h).listed) same in
      omega (arith, listed, five)

  pub is_ahead : Shows (state g office) (tables_of founding) → IsAhead (Some first_text) g 2 office
  is_ahead shows = record {
    history = founding;
    journal = first_journal;
    lawful = is_lawful;
    shows = shows;
    ahead = omega (arith, one_told);
  }

  pub never_ahead : IsAhead (Some first_text) g 1 office → ⊥
  never_ahead is = let above : length (told first_text) < 1 = is.ahead in omega (arith, above, one_told)

  pub never_other_ahead : (state g office).now.trees 0 ≡ office_row 6 ∷ [] → IsAhead (Some first_text) g 2 office → ⊥
  never_other_ahead row is = lists_five is.history is.journal is.shows row

  -- what differs differs from the tables of the founding
  pub differs_from_founding : (d : Difference) → Shows (state g office) (tables_of founding) → IsOther (Some first_text) g g office d
      → DifferAt (tables_of founding) (tables_of founding) d
  differs_from_founding d shows is =
      subst (λ h. DifferAt (tables_of h) (tables_of founding) d) (one_history first_text is.history founding is.journal first_journal) (is.differ (tables_of founding) shows)

  module _ (kept : Option KeptSeal) (mark : ℕ) (told_is : Verified) (is : IsVerified (Some first_text) g kept mark office told_is) where
    -- the history is the founding
    is_founding : is.history ≡ founding
    is_founding = one_history first_text is.history founding is.journal.journal first_journal

    pub one_event : told_is.events ≡ 1
    one_event = is.counted ∙ ap (λ (h : History). length h) is_founding

    pub one_line : told_is.lines ≡ 1
    one_line = is.lined ∙ one_told

    -- the tables are those of the founding
    pub never_listed : (state g office).now.trees 0 ≡ office_row 6 ∷ [] → ⊥
    never_listed row = lists_five is.history is.journal.journal is.shows row

  -- no lawful history has an empty journal
  pub never_empty : (mark : ℕ) (told_is : Verified) → IsVerified (Some []) g None mark office told_is → ⊥
  never_empty mark told_is is =
      let empty : IsJournalOf [] [] = record { bodies = []; is = refl; says = nothing_said } in
      subst IsLawfulHistory (one_history [] is.history [] is.journal.journal empty) is.lawful
