-- Why the history of a journal with no line isn't written.
use Rattle.std.proofs.Common.{◌≡◌, inl, inr, ℕ, List, [], ◌∷◌, ◌++◌, length, Some, refl, ap, arith}
use Rattle.std.proofs.lemmas.List.Elements.{All-nil}
use Rattle.sqlite.specs.Held.{Held}
use Rattle.sqlite.specs.Store.{Ghosts}
use Rattle.no_memory.specs.Witness.{witness}
use Rattle.office_policy.specs.History.{Event}
use Rattle.review_office.specs.Meant.{meaning_over}
use Rattle.journal.specs.Journal.{IsEntry}
use Rattle.journal.specs.Told.{GoesOn, Place, Tells, start}
use Rattle.journal_faults.specs.declared.refused.Why.TheVariants.{NotFounded}
use Rattle.journal_faults.specs.declared.unwritten.Unwritten.TheVariants.{NoMemory, Refused, Write}
use Rattle.journal_reports.specs.History.{IsUnwritten}
use Rattle.example_tests.specs.JournalExamples.{all_asked, one, refused_at, two}

pub nothing_told : Tells (start (Some [])) []
nothing_told = record { lines = []; entries = All-nil IsEntry; says = refl; tells = refl }

never_told : (after : Place) (placed : ℕ × Event) → GoesOn (start (Some [])) after (placed ∷ []) → ⊥
never_told after placed on =
    let then = on.only [] [] refl nothing_told in
    let k : ◌≡◌ {A = ℕ} 0 (length (placed ∷ then.rest)) = ap (λ (es : List (ℕ × Event)). length es) then.parts in
    omega (arith, k)

module _ {S : Type 0} (g : Ghosts S) (conn left : Held S) where
  pub of_no_line : IsUnwritten (Some []) all_asked (Some one) (Some one) g conn left (Refused (refused_at 1 NotFounded)) → ⊥
  of_no_line (inl (inl none, same)) = let k : 1 ≡ 0 = none.1 in omega (arith, k)
  of_no_line (inl (inr other, same)) = never_told other.after (1, other.event) other.told
  of_no_line (inr never) = never

  pub nothing_more : IsUnwritten (Some []) all_asked (Some []) (Some one) g conn left (Refused (refused_at 0 NotFounded)) → ⊥
  nothing_more (inl (none, same)) = absurd (cc)
  nothing_more (inr never) = never

  -- no bytes are put behind the first ones that don't begin with them
  never_behind : (more : List ℕ) → two ≡ one ++ more → ⊥
  never_behind more is = cc

  pub stays_at_the_writer : (meaning_over g).is_clean left → IsUnwritten (Some []) all_asked (Some one) (Some two) g conn left Write → ⊥
  stays_at_the_writer clean (inl cut) = never_behind _ (cut.written clean).2
  stays_at_the_writer clean (inr cut) = never_behind _ (cut.written clean).2

  pub stays_for_memory : (meaning_over g).is_clean left → IsUnwritten (Some []) all_asked (Some one) (Some two) g conn left (NoMemory witness) → ⊥
  stays_for_memory clean up = never_behind _ (up.written clean)
