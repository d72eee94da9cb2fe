-- An office whose journal is that of its founding.
use Rattle.std.proofs.Common.{◌≡◌, ◌∙◌, ◌⊎◌, ◌≤◌, inl, inr, ℕ, List, [], ◌∷◌, ◌++◌, true, false, not, Option, Some, IsTrue, length, refl, sym, ap, subst, arith, lit<, length-append}
use Rattle.std.proofs.lemmas.Bool.{and_from, and_parts}
use Rattle.std.proofs.lemmas.List.Elements.{All-cons, All-nil}
use Rattle.sqlite.specs.Held.{Held}
use Rattle.sqlite.specs.Store.{Ghosts}
use Rattle.sqlite_disk.specs.declared.Disk.{Ghosts as DiskGhosts}
use Rattle.sealed_log.specs.Log.{bodies_of}
use Rattle.sealed_log.specs.Sealed.{sealed_text}
use Rattle.sealed_log.specs.Told.{HasMore, told}
use Rattle.sealed_log.specs.declared.log.SealedLog.{SealedLog}
use Rattle.office_policy.specs.History.{Event, History}
use Rattle.office_policy.specs.ShowsEvent.{Shows}
use Rattle.office_policy.specs.TablesOf.{tables_of}
use Rattle.review_office.specs.Meant.{meaning_over}
use Rattle.journal.specs.Journal.{EndsWithEvent, IsEntry, Says}
use Rattle.journal.specs.Journals.{IsOf, goes_on}
use Rattle.journal.specs.Kept.{Settled, with_stood}
use Rattle.journal.specs.Lines.{happened, strike, done, text_of}
use Rattle.journal.specs.Logs.{in_log}
use Rattle.journal.specs.Writers.{ShowsWriters, writers_of}
use Rattle.journal.specs.declared.journaled.Journaled.{Journaled}
use Rattle.journal.proofs.KeptFacts.{settled_one}
use Rattle.journal.proofs.Lengths.{done_entry}
use Rattle.journal.proofs.LineFacts.{same_line}
use Rattle.journal.proofs.Offices.{stands_with}
use Rattle.journal.proofs.Texts.{last_same}
use Rattle.journal_office.specs.Mending.{IsOthers, SaysOther, TellsOf}
use Rattle.journal_office.specs.Opening.{IsOfNow, IsReopened}
use Rattle.example_tests.specs.Examples.{founding, founds}
use Rattle.example_tests.specs.JournalExamples.{first_line, first_lines, HasBodies, IsCleanOffice, ShowsFounding, with_log}
use Rattle.example_tests.proofs.Lines.{first_says, first_lines_say, founds_entry, founds_forms, none_before, told_first, told_first_lines}
use Rattle.office_policy.proofs.SurvivalFacts.{left_itself}

-- ---- what the line of the founding holds back

pub first_settled : Settled first_line [] (Some (founds 5))
first_settled = record { lines = happened (founds 5) ∷ []; entries = All-cons IsEntry (happened (founds 5)) [] founds_entry (All-nil IsEntry); are = refl; by = refl }

-- the tables of another founding don't show it
pub is_others : IsOthers (tables_of (founds 6 ∷ [])) first_line
is_others = record {
  settled = [];
  held = Some (founds 5);
  says = first_settled;
  without = λ shows. shows.users;
  with_it = λ shows. let k : ◌≡◌ {A = ℕ} 6 5 = shows.users.1 in absurd (omega (arith, k));
}

-- ---- the log

module _ {D : Type 0} (g : DiskGhosts D) (log : SealedLog D g) where
  pub has_first : HasBodies g log first_line → bodies_of g log ≡ first_line
  has_first has = ap told has.seen ∙ told_first

  pub has_first_lines : HasBodies g log first_lines → bodies_of g log ≡ first_lines
  has_first_lines has = ap told has.seen ∙ told_first_lines

  -- nothing stands behind that line
  pub has_no_more : HasBodies g log first_line → HasMore (g.seen log.disk) → ⊥
  has_no_more has more =
      let whole : sealed_text (bodies_of g log) ≡ g.seen log.disk = ap sealed_text (has_first has) ∙ sym has.seen in
      let size = ap (λ (l : List ℕ). length l) whole in
      omega (arith, more, size)

-- ---- the office that goes on with it

module _ {S D : Type 0} (s : Ghosts S) (g : DiskGhosts D) (old : Held S) (log : SealedLog D g) where
  is_now : (h : History) → (meaning_over s).is_of h old → (meaning_over s).is_clean old → HasBodies g log first_line → Says (bodies_of g log) h → IsOfNow s g h old (with_log old log false)
  is_now h of clean has says =
      let x : Journaled (Held S) (SealedLog D g) = with_log old log false in
      let goes : IsTrue (goes_on (meaning_over s) (in_log g) x) = and_from log.is_open (not false) has.is_open refl in
      let ends : EndsWithEvent (bodies_of g log) = record { before = []; event = founds 5; forms = founds_forms; is = has_first g log has } in
      let is_of : IsOf (meaning_over s) (in_log g) h x = record { office = of; says = λ clean goes. says; ends = λ clean goes unsettled. ends } in
      record {
        now = h;
        tables = record { grown = inl refl; tables = refl };
        of = is_of;
        stands = λ stands. stands_with (meaning_over s) (in_log g) x h (clean, has.clean) goes is_of stands;
      }

  -- the lines tell the founding
  told_now : (h : History) → (meaning_over s).is_of h old → (meaning_over s).is_clean old → HasBodies g log first_line → TellsOf h (bodies_of g log) → IsOfNow s g h old (with_log old log false)
  told_now h of clean has (inl says) = is_now h of clean has says
  told_now h of clean has (inr more) = absurd (none_before more.1.before h _ more.1.says ((meaning_over s).lawful h old of) (sym (has_first g log has) ∙ more.1.is))

  never_others : (h : History) → Shows (tables_of h) (founds 5) → HasBodies g log first_line → SaysOther 1 h (bodies_of g log) → ⊥
  never_others h shows has (inl ahead) = let size = ap (λ (l : List (List ℕ)). length l) (has_first g log has) in omega (arith, ahead, size)
  never_others h shows has (inr other) =
      let held : Settled (bodies_of g log) [] (Some (founds 5)) = subst (λ (b : List (List ℕ)). Settled b [] (Some (founds 5))) (sym (has_first g log has)) first_settled in
      let same = settled_one (bodies_of g log) [] other.settled (Some (founds 5)) other.held held other.says in
      other.with_it (subst (λ (p : History × Option Event). ShowsWriters (tables_of h) (with_stood p.1 (writers_of p.0))) same
      (record { users = shows; revisions = tt; votes = tt; baselines = tt; holds = tt }))

  pub reopened : ShowsFounding s old → HasBodies g log first_line → IsReopened s g 1 old log (with_log old log false)
  reopened shows has =
      let is = has_first g log has in
      let says : Says (bodies_of g log) founding = subst (λ (b : List (List ℕ)). Says b founding) (sym is) first_says in
      record {
        office = left_itself (meaning_over s) old;
        goes_on = and_from log.is_open (not false) has.is_open refl;
        clean = λ clean. clean;
        bodies = λ clean. record { was = founding; says = says; is = inl refl };
        whole = λ clean more. has_no_more g log has more;
        journal = λ clean h of tells is_clean. told_now h of is_clean has tells;
        ours = λ clean h of is_clean other. never_others h (shows h of) has other;
        marked = λ clean. let size = ap (λ (l : List (List ℕ)). length l) is in omega (arith, size);
        crash = λ clean leaves. leaves;
      }

  -- the last of them isn't the line of an event
  pub never_unsettled : IsCleanOffice s founding old → HasBodies g log first_lines → IsReopened s g 1 old log (with_log old log false) → ⊥
  never_unsettled office has is =
      let are = has_first_lines g log has in
      let says : Says (bodies_of g log) founding = subst (λ (b : List (List ℕ)). Says b founding) (sym are) first_lines_say in
      let now = is.journal has.clean founding office.of (inl says) office.clean in
      let ends : EndsWithEvent (bodies_of g log) = now.of.ends (office.clean, has.clean) is.goes_on refl in
      let text = last_same (text_of (happened (founds 5)) ∷ []) ends.before (text_of (done 1)) (text_of (happened ends.event)) (sym are ∙ ends.is) in
      let same : done 1 ≡ happened ends.event = same_line (done 1) (happened ends.event) (done_entry 1 (lit< tt)).formed ends.forms text in
      absurd (let k : done 1 ≡ happened ends.event = same in cc)

  module _ (x : Journaled (Held S) (SealedLog D g)) where
    pub never_ahead : HasBodies g log first_line → HasBodies g x.journal first_line → IsReopened s g 2 old log x → ⊥
    never_ahead has after is =
        let size = ap (λ (l : List (List ℕ)). length l) (has_first g log has) in
        let enough : 2 ≤ length (bodies_of g log) = is.marked after.clean in
        omega (arith, size, enough)

    pub never_of_others : HasBodies g log first_line → IsCleanOffice s (founds 6 ∷ []) old → IsCleanOffice s (founds 6 ∷ []) x.office → HasBodies g x.journal first_line → IsReopened s g 1 old log x → ⊥
    never_of_others has was office after is =
        let other : IsOthers (tables_of (founds 6 ∷ [])) (bodies_of g log) = subst (IsOthers (tables_of (founds 6 ∷ []))) (sym (has_first g log has)) is_others in
        is.ours after.clean (founds 6 ∷ []) was.of office.clean (inr other)

    -- no line is missing
    pub never_less : HasBodies g log first_lines → HasBodies g x.journal first_line → IsReopened s g 1 old log x → ⊥
    never_less has after is = by (is.bodies after.clean).is
      where
        two : length (bodies_of g log) ≡ 2
        two = ap (λ (l : List (List ℕ)). length l) (has_first_lines g log has)

        one : length (bodies_of g x.journal) ≡ 1
        one = ap (λ (l : List (List ℕ)). length l) (has_first g x.journal after)

        by : (bodies_of g x.journal ≡ bodies_of g log) ⊎ (bodies_of g x.journal ≡ bodies_of g log ++ text_of strike ∷ []) → ⊥
        by (inl same) = let size = ap (λ (l : List (List ℕ)). length l) same in omega (arith, one, two, size)
        by (inr struck) = let size = ap (λ (l : List (List ℕ)). length l) struck in omega (arith, one, two, size, length-append (bodies_of g log) (text_of strike ∷ []))

    pub never_shut : x.journal.is_open ≡ false → IsReopened s g 1 old log x → ⊥
    never_shut shut is = let k : true ≡ false = sym (and_parts x.journal.is_open (not x.has_stray) is.goes_on).0 ∙ shut in cc

    pub never_stray : x.has_stray ≡ true → IsReopened s g 1 old log x → ⊥
    never_stray stray is = let k : false ≡ true = sym (ap not stray) ∙ (and_parts x.journal.is_open (not x.has_stray) is.goes_on).1 in cc
