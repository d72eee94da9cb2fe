-- An office that is founded, and the journal that is begun by its founding.
use Rattle.std.proofs.Common.{◌≡◌, ◌∙◌, ℕ, List, [], ◌∷◌, true, false, Ok, IsTrue, length, refl, sym, ap, subst, arith}
use Rattle.sqlite.specs.Held.{Held, state}
use Rattle.sqlite.specs.Schema.{Schema}
use Rattle.sqlite.specs.State.{HasCleanDisk}
use Rattle.sqlite.specs.Store.{Ghosts}
use Rattle.sqlite_disk.specs.declared.Disk.{Ghosts as DiskGhosts}
use Rattle.sealed_log.specs.Faults.{IsLater}
use Rattle.sealed_log.specs.declared.log.SealedLog.{SealedLog}
use Rattle.office_policy.specs.History.{History, founded}
use Rattle.office_store.specs.Schema.{no_schema, office_schema}
use Rattle.office_store.specs.Shown.{office_row}
use Rattle.journal.specs.Journal.{Says}
use Rattle.journal.proofs.JournalFacts.{says_one}
use Rattle.changing_commands.specs.Foundings.{history_of, IsFoundedBy, IsFoundedIn}
use Rattle.changing_commands.specs.Journals.{IsBegunBy}
use Rattle.example_tests.specs.Examples.{founding}
use Rattle.example_tests.specs.JournalExamples.{first_line, first_lines, HasBodies, HasMet}
use Rattle.example_tests.specs.EdgeExamples.{founding_with, HasCounted, just}
use Rattle.example_tests.proofs.Lines.{first_says, founds_forms}
use Rattle.example_tests.proofs.Openings.{has_first, has_first_lines}
use Rattle.example_tests.proofs.Verified.{listed_in}

-- ---- the office

module _ {S : Type 0} (g : Ghosts S) (was office : Held S) where
  pub is_founded : (state g was).now.schema ≡ no_schema → HasCleanDisk (state g was) → IsFoundedBy g (founding_with 5) office → IsFoundedIn g (just was) (Ok (founding_with 5)) office
  is_founded empty clean by = record { was = was; opened = refl; empty = empty; clean = λ now. clean; founded = by }

  -- an office's schema isn't that of an empty database
  pub never_over : (state g was).now.schema ≡ office_schema → IsFoundedIn g (just was) (Ok (founding_with 5)) office → ⊥
  never_over there is =
      let none : office_schema ≡ no_schema = sym there ∙ ap (λ (conn : Held S). (state g conn).now.schema) (sym is.opened) ∙ is.empty in
      let k : ◌≡◌ {A = ℕ} 6 0 = ap (λ (s : Schema). length s.tables) none in
      absurd (omega (arith, k))

  pub never_clean_again : (HasCleanDisk (state g was) → ⊥) → HasCleanDisk (state g office) → IsFoundedIn g (just was) (Ok (founding_with 5)) office → ⊥
  never_clean_again unclean clean is = unclean (subst (λ (conn : Held S). HasCleanDisk (state g conn)) is.opened (is.clean clean))

  pub never_of_other : HasCleanDisk (state g office) → (state g office).is_open ≡ true → (state g office).now.trees 0 ≡ office_row 6 ∷ []
      → IsFoundedIn g (just was) (Ok (founding_with 5)) office → ⊥
  never_of_other clean is_open row is =
      let rows = sym row ∙ (is.founded.0.tables clean is_open).office.office in
      let k : ◌≡◌ {A = ℕ} 6 5 = ap listed_in rows in
      absurd (omega (arith, k))

-- ---- the journal

abbrev listed_first : History → ℕ
listed_first (founded name team digest listed ∷ before) = listed
listed_first h = 0

module _ {D : Type 0} (f : DiskGhosts D) (made : D) (log : SealedLog D f) where
  pub is_begun : IsTrue (f.is_clean made) → IsLater f made log.disk → HasBodies f log first_line → IsBegunBy f (just (Ok made)) (founding_with 5) log
  is_begun clean later has = record {
    made = made;
    created = refl;
    clean = λ now. clean;
    counts = later;
    forms = founds_forms;
    line = (has.is_open, λ now. has_first f log has);
    says = λ now. subst (λ (b : List (List ℕ)). Says b founding) (sym (has_first f log has)) first_says;
  }

  pub never_by_other : HasBodies f log first_line → IsBegunBy f (just (Ok made)) (founding_with 6) log → ⊥
  never_by_other has is =
      let says = subst (λ (b : List (List ℕ)). Says b (history_of (founding_with 6))) (has_first f log has) (is.says has.clean) in
      let k : ◌≡◌ {A = ℕ} 6 5 = ap listed_first (says_one first_line (history_of (founding_with 6)) founding says first_says) in
      absurd (omega (arith, k))

  pub never_more : HasBodies f log first_lines → IsBegunBy f (just (Ok made)) (founding_with 5) log → ⊥
  never_more has is =
      let k : ◌≡◌ {A = ℕ} 2 1 = ap (λ (l : List (List ℕ)). length l) (sym (has_first_lines f log has) ∙ is.line.1 has.clean) in
      absurd (omega (arith, k))

  pub never_shut_at_once : log.is_open ≡ false → IsBegunBy f (just (Ok made)) (founding_with 5) log → ⊥
  never_shut_at_once shut is = let k : true ≡ false = sym is.line.0 ∙ shut in cc

  pub never_unclean : (IsTrue (f.is_clean made) → ⊥) → HasBodies f log first_line → IsBegunBy f (just (Ok made)) (founding_with 5) log → ⊥
  never_unclean unclean has is =
      let same : is.made ≡ made = let k = is.created in cc in
      unclean (subst (λ (d : D). IsTrue (f.is_clean d)) same (is.clean has.clean))

  pub never_less_met : HasCounted f made 4 2 → HasMet f log 3 → IsBegunBy f (just (Ok made)) (founding_with 5) log → ⊥
  never_less_met was met is =
      let same : is.made ≡ made = let k = is.created in cc in
      let count = ap f.faults same in
      let later = is.counts.faults in
      omega (arith, count, later, was.failed, met)
