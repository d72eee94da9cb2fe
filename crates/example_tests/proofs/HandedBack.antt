-- An office and a journal that are handed back.
use Rattle.std.proofs.Common.{◌≡◌, ◌≢◌, ◌∙◌, ◌≤◌, inl, inr, ℕ, List, [], ◌∷◌, true, length, refl, sym, ap, subst, arith, append-nil, length-append}
use Rattle.std.proofs.lemmas.Bool.{false≢true}
use Rattle.std.proofs.lemmas.List.Elements.{All-cons, All-nil}
use Rattle.sqlite.specs.Held.{Held, state}
use Rattle.sqlite.specs.Store.{Ghosts}
use Rattle.sqlite_disk.specs.declared.Disk.{Ghosts as DiskGhosts}
use Rattle.sealed_log.specs.Disks.{LeavesTail}
use Rattle.sealed_log.specs.Log.{bodies_of}
use Rattle.sealed_log.specs.Sealed.{IsBody, longest, sealed_text}
use Rattle.sealed_log.specs.Told.{told}
use Rattle.sealed_log.specs.declared.log.SealedLog.{SealedLog}
use Rattle.sealed_log.proofs.ToldFacts.{told_nothing, told_text}
use Rattle.office_words.specs.declared.fault.Fault.TheVariants.{Full}
use Rattle.office_policy.specs.History.{History}
use Rattle.office_policy.specs.Lawful.{IsLawfulHistory}
use Rattle.office_policy.proofs.SurvivalFacts.{left_itself}
use Rattle.review_office.specs.Meant.{meaning_over}
use Rattle.journal.specs.Journal.{Says}
use Rattle.journal.specs.Lines.{happened, text_of}
use Rattle.journal.proofs.JournalFacts.{says_one}
use Rattle.journal_faults.specs.declared.not_reopened.NotReopened.{NotReopened}
use Rattle.journal_faults.specs.declared.not_reopened.NotReopened.TheVariants.{Changed, Log, NoMemory, NotALine, Office, OtherJournal, Unsealed}
use Rattle.journal_office.specs.Mending.{SaysOther, TellsOf}
use Rattle.journal_office.specs.Opening.{IsHandedBack}
use Rattle.journal_office.proofs.MendFacts.{left_ours}
use Rattle.example_tests.specs.Examples.{IsAfter, founding}
use Rattle.example_tests.specs.JournalExamples.{first_line, first_lines, HasBodies, HasMet, IsCleanOffice, IsUnclean, MayLeaveNothing, one}
use Rattle.example_tests.proofs.Founded.{is_lawful}
use Rattle.example_tests.proofs.Leavings.{none_in_front}
use Rattle.example_tests.proofs.Lines.{first_says, nothing_said, told_first, told_first_lines}
use Rattle.example_tests.proofs.Openings.{has_first, has_no_more}
use Rattle.no_memory.specs.Witness.{witness}

-- ---- the log

no_line_at_all : first_line ≡ [] → ⊥
no_line_at_all is = let k : ◌≡◌ {A = ℕ} 1 0 = ap (λ (l : List (List ℕ)). length l) is in absurd (omega (arith, k))

one_is_body : IsBody one
one_is_body = record { one = All-cons (λ b. b ≢ 10) 1 [] (λ same. omega (arith, same)) (All-nil (λ b. b ≢ 10)); fits = omega arith }

module _ {D : Type 0} (g : DiskGhosts D) (log : SealedLog D g) where
  has_none : HasBodies g log [] → bodies_of g log ≡ []
  has_none has = ap told has.seen ∙ told_nothing

  -- a crash leaves all of it
  leaves_all : (bodies : List (List ℕ)) → HasBodies g log bodies → LeavesTail g log.disk (sealed_text bodies) longest
  leaves_all bodies has = λ left may. record { tail = []; short = omega arith; is = log.settled has.is_open left may ∙ has.seen ∙ sym (append-nil (sealed_text bodies)) }

-- no lawful history is told by no body
untold : (h : History) → IsLawfulHistory h → TellsOf h [] → ⊥
untold h lawful (inl says) = subst IsLawfulHistory (says_one [] h [] says nothing_said) lawful
untold h lawful (inr more) =
    let size = ap (λ (l : List (List ℕ)). length l) more.1.is in
    omega (arith, size, length-append more.1.before (text_of (happened more.0) ∷ []))

module _ {S D : Type 0} (s : Ghosts S) (g : DiskGhosts D) (old : Held S) (log : SealedLog D g) where
  -- ---- they are handed back as they were

  pub no_memory : IsHandedBack s g 1 old log (NoMemory witness) old log
  no_memory = record {
    unchanged = left_itself (meaning_over s) old;
    clean = λ clean. clean;
    unsealed = λ clean is. absurd (cc);
    changed = λ clean at is. absurd (cc);
    no_line = λ clean is. absurd (cc);
    line = λ clean h lawful tells. (λ is. cc, λ is. cc);
    other = λ clean h of is_clean is. absurd (cc);
    own = λ clean h of is_clean tells marked is. cc;
    untouched = λ refusal. refl;
    cause = λ h of is_clean. tt;
    word = λ clean. tt;
    crash = λ clean leaves. leaves;
  }

  pub unsealed : HasBodies g log [] → IsHandedBack s g 1 old log Unsealed old log
  unsealed has = record {
    unchanged = left_itself (meaning_over s) old;
    clean = λ clean. clean;
    unsealed = λ clean is. has_none g log has;
    changed = λ clean at is. absurd (cc);
    no_line = λ clean is. absurd (cc);
    line = λ clean h lawful tells. absurd (untold h lawful (subst (TellsOf h) (has_none g log has) tells));
    other = λ clean h of is_clean is. absurd (cc);
    own = λ clean h of is_clean tells marked is. cc;
    untouched = λ refusal. refl;
    cause = λ h of is_clean. tt;
    word = λ clean. tt;
    crash = λ clean leaves. leaves;
  }

  pub mark_above : HasBodies g log first_line → IsHandedBack s g 2 old log OtherJournal old log
  mark_above has =
      let size : length (bodies_of g log) ≡ 1 = ap (λ (l : List (List ℕ)). length l) (has_first g log has) in
      record {
        unchanged = left_itself (meaning_over s) old;
        clean = λ clean. clean;
        unsealed = λ clean is. absurd (cc);
        changed = λ clean at is. absurd (cc);
        no_line = λ clean is. absurd (cc);
        line = λ clean h lawful tells. (λ is. cc, λ is. cc);
        other = λ clean h of is_clean is. inl (omega (arith, size));
        own = λ clean h of is_clean tells marked is. omega (arith, size, marked);
        untouched = λ refusal. refl;
        cause = λ h of is_clean. tt;
        word = λ clean. tt;
        crash = λ clean leaves. leaves;
      }

  -- ---- and not otherwise

  module _ (office : Held S) (after : SealedLog D g) where
    pub never_forgotten : (why : NotReopened) → IsAfter s old true 4 → IsAfter s office true 3 → IsHandedBack s g 1 old log why office after → ⊥
    never_forgotten why was is back =
        let counts : (state s old).faults ≤ (state s office).faults = back.unchanged.survives.counts in
        omega (arith, counts, was.count, is.count)

    pub never_clean : (why : NotReopened) → IsUnclean g log → HasBodies g after first_line → IsHandedBack s g 1 old log why office after → ⊥
    never_clean why unclean has back = unclean (back.clean has.clean)

    pub never_unsealed : HasBodies g log (one ∷ []) → HasBodies g after (one ∷ []) → IsHandedBack s g 1 old log Unsealed office after → ⊥
    never_unsealed was has back =
        let bodies : one ∷ [] ≡ [] = sym (ap told was.seen ∙ told_text (one ∷ []) (All-cons IsBody one [] one_is_body (All-nil IsBody))) ∙ back.unsealed has.clean refl in
        let k : ◌≡◌ {A = ℕ} 1 0 = ap (λ (l : List (List ℕ)). length l) bodies in
        absurd (omega (arith, k))

    pub never_changed : (at : ℕ) → HasBodies g log first_line → HasBodies g after first_line → IsHandedBack s g 1 old log (Changed at) office after → ⊥
    never_changed at was has back = has_no_more g log was (back.changed has.clean at refl).0

    pub never_no_line : HasBodies g log [] → HasBodies g after [] → IsHandedBack s g 1 old log NotALine office after → ⊥
    never_no_line was has back = back.no_line has.clean refl [] (subst (λ (b : List (List ℕ)). Says b []) (sym (has_none g log was)) nothing_said)

    pub never_others : IsCleanOffice s founding old → IsCleanOffice s founding office → HasBodies g log first_line → HasBodies g after first_line
        → IsHandedBack s g 1 old log OtherJournal office after → ⊥
    never_others of is was has back =
        left_ours 1 founding first_line is_lawful (inl first_says) (omega arith)
        (subst (SaysOther 1 founding) (has_first g log was) (back.other has.clean founding of.of is.clean refl))

    pub never_written : HasBodies g log first_line → HasBodies g after first_lines → IsHandedBack s g 2 old log OtherJournal office after → ⊥
    never_written was has back =
        let same : sealed_text first_lines ≡ sealed_text first_line = sym has.seen ∙ back.untouched tt ∙ was.seen in
        let bodies = sym told_first_lines ∙ ap told same ∙ told_first in
        let k : ◌≡◌ {A = ℕ} 2 1 = ap (λ (l : List (List ℕ)). length l) bodies in
        absurd (omega (arith, k))

    pub never_uncaused : IsCleanOffice s founding old → IsCleanOffice s founding office → IsAfter s old true 3 → IsAfter s office true 3
        → IsHandedBack s g 1 old log (Office Full) office after → ⊥
    never_uncaused of is was now back =
        let risen = back.cause founding of.of is.clean in
        omega (arith, was.count, now.count, risen)

    pub never_uncalled : HasBodies g log first_line → HasBodies g after first_line → HasMet g log 3 → HasMet g after 3 → IsHandedBack s g 1 old log Log office after → ⊥
    never_uncalled was has met now back = elim (back.word has.clean) [
      | inl shut ↦ false≢true (sym shut ∙ log.usable was.is_open)
      | inr fails ↦
          let begun = fails.call.begun.faults in
          let failed = fails.call.failed in
          let ended = fails.call.ended.faults in
          omega (arith, begun, failed, ended, met, now)
    ]

    pub never_lost : (why : NotReopened) → HasBodies g log first_line → MayLeaveNothing g after → IsHandedBack s g 1 old log why office after → ⊥
    never_lost why was leaves back =
        let same = has_first g log was in
        let tail = back.crash leaves.clean (subst (λ (b : List (List ℕ)). LeavesTail g log.disk (sealed_text b) longest) (sym same) (leaves_all g log first_line was)) [] leaves.nothing in
        no_line_at_all (sym same ∙ none_in_front (bodies_of g log) tail.tail tail.is)
