-- The lines of events, written one after the other.
use Rattle.std.proofs.Common.{◌≡◌, ◌∙◌, ◌<◌, ◌-◌, arith, inl, inr, ℕ, List, [], ◌∷◌, ◌++◌, length, take, true, false, Option, Some, None, Result, Ok, Err, refl, sym, ap, ap₂, subst, append_assoc, append-nil}
use Rattle.std.specs.Prelude.{⊤, if◌then◌else◌}
use Rattle.std.specs.Io.KnownBytes.{Appends}
use Rattle.std.proofs.KnownBytes.{Appends-nil, Appends-trans}
use Rattle.streams.specs.Steps.{AppendsPart}
use Rattle.sqlite.specs.Held.{Held}
use Rattle.sqlite.specs.Store.{Ghosts}
use Rattle.office_words.specs.declared.fault.Fault.{Fault}
use Rattle.office_words.specs.declared.row.RevisionRow.{RevisionRow}
use Rattle.office_policy.specs.History.{Event, History}
use Rattle.office_policy.specs.Handled.{Stands, Survives}
use Rattle.office_policy.specs.Lawful.{IsFounding, IsLawfulHistory}
use Rattle.office_policy.specs.Meaning.{Meaning}
use Rattle.review_office.specs.Looking.{HasLookedBack}
use Rattle.review_office.specs.Meant.{meaning_over}
use Rattle.review_office.specs.Replayed.{HasHappened}
use Rattle.sealed_log.specs.declared.unreadable.Unreadable.{Unreadable}
use Rattle.journal.specs.Told.{Begins, Ends, GoesOn, Place, Tells, held_at, history_told, standing, start}
use Rattle.journal.proofs.ToldFacts.{begins_first, stays, still_known}
use Rattle.journal_faults.specs.declared.refused.Refused.{Refused}
use Rattle.journal_faults.specs.declared.refused.Why.{Why}
use Rattle.journal_faults.specs.declared.refused.Why.TheVariants as halt
use Rattle.journal_office.specs.Rebuilt.{HasReplayed, line_behind}
use Rattle.journal_office.specs.Steps.{ComesNext, IsKeptOut as IsOut, IsLeft, IsLeftHeld, LeavesAt}
use Rattle.journal_office.proofs.Comes.{held_number, held_stands, none_stands}
use Rattle.journal_office.proofs.Replays.{goes_then, more_lawful, more_stands, told_on}
use Rattle.journal_faults.specs.declared.unwritten.Unwritten.{Unwritten}
use Rattle.journal_faults.specs.declared.unwritten.Unwritten.TheVariants as why
use Rattle.journal_reports.specs.History.{HasWritten, IsCutOff, IsHalted, IsUnwritten, NoneTo, last_behind, last_line, lines_after, lines_to, lines_told, shown_behind, shown_of}
use Rattle.journal_reports.specs.Lines.{line_of, looked_up, text_in}
use Rattle.journal_reports.specs.Passing.{Asked, passes}
use Rattle.journal_reports.specs.Struck.{struck_lines}
use Rattle.journal_reports.specs.Writing.{AreWritten, HasLine, HasLookedUp, HasNoLine, IsStopped, LooksUp, WritesAll, WritesFirst, WritesNext, WritesPart, WritesText}
use Rattle.journal_reports.proofs.Looks.{looked_on}
use Rattle.no_memory.specs.Witness.{witness}

-- ---- definitions

-- the last line, with one event more
last_more : (line : ℕ) (es : List (ℕ × Event)) (placed : ℕ × Event) → last_behind line (es ++ placed ∷ []) ≡ placed.0
last_more line [] placed = refl
last_more line (q ∷ es) placed = last_more q.0 es placed

pub last_is : (es : List (ℕ × Event)) (placed : ℕ × Event) → last_line (es ++ placed ∷ []) ≡ placed.0
last_is es placed = last_more 0 es placed

-- the lines of one event more
lines_more : (asked : Asked) (behind : ℕ) (h : History) (es : List (ℕ × Event)) (placed : ℕ × Event)
    → lines_after asked behind h (es ++ placed ∷ []) ≡ lines_after asked behind h es ++ shown_behind asked (last_behind behind es) (history_told es ++ h) placed
lines_more asked behind h [] placed = append-nil (shown_behind asked behind h placed)
lines_more asked behind h (q ∷ es) placed =
    let onto : history_told es ++ (q.1 ∷ h) ≡ history_told (q ∷ es) ++ h =
    sym (append_assoc (history_told es) (q.1 ∷ []) h) ∙ ap (λ (l : List Event). l ++ h) (sym (told_on (q ∷ []) es)) in
    ap (λ t. shown_behind asked behind h q ++ t)
    (lines_more asked q.0 (q.1 ∷ h) es placed ∙ ap (λ (l : List Event). lines_after asked q.0 (q.1 ∷ h) es ++ shown_behind asked (last_behind q.0 es) l placed) onto)
    ∙ sym (append_assoc (shown_behind asked behind h q) (lines_after asked q.0 (q.1 ∷ h) es) (shown_behind asked (last_behind q.0 es) (history_told (q ∷ es) ++ h) placed))

told_lines : (asked : Asked) (es : List (ℕ × Event)) (placed : ℕ × Event)
    → lines_told asked (es ++ placed ∷ []) ≡ lines_told asked es ++ shown_behind asked (last_line es) (history_told es) placed
told_lines asked es placed =
    lines_more asked 0 [] es placed ∙ ap (λ (l : List Event). lines_told asked es ++ shown_behind asked (last_line es) l placed) (append-nil (history_told es))

-- nothing comes behind the last line
none_behind : (n : ℕ) → n - n ≡ 0
none_behind n = omega arith

no_more_lines : (asked : Asked) (es : List (ℕ × Event)) (count : ℕ) → last_line es ≡ count → lines_to asked es count ≡ lines_told asked es
no_more_lines asked es count is =
    ap (λ n. lines_told asked es ++ struck_lines asked (last_line es) (n - last_line es)) (sym is)
    ∙ ap (λ n. lines_told asked es ++ struck_lines asked (last_line es) n) (none_behind (last_line es)) ∙ append-nil (lines_told asked es)

-- those before an event, and its own
lines_with : (asked : Asked) (es : List (ℕ × Event)) (placed : ℕ × Event)
    → lines_to asked (es ++ placed ∷ []) (last_line (es ++ placed ∷ [])) ≡ lines_to asked es (placed.0 - 1) ++ shown_of asked (history_told es) placed
lines_with asked es placed =
    no_more_lines asked (es ++ placed ∷ []) (last_line (es ++ placed ∷ [])) refl ∙ told_lines asked es placed
    ∙ sym (append_assoc (lines_told asked es) (struck_lines asked (last_line es) (placed.0 - 1 - last_line es)) (shown_of asked (history_told es) placed))

pub not_shown : (asked : Asked) (h : History) (line : ℕ) (e : Event) (text : List ℕ) → passes asked (line, e) ≡ false → text ≡ [] → text ≡ shown_of asked h (line, e)
not_shown asked h line e text not_asked empty = empty ∙ ap (λ b. if b then line_of asked.json h line e else []) (sym not_asked)

pub is_shown : (asked : Asked) (h : History) (line : ℕ) (e : Event) (found : Option RevisionRow) (text : List ℕ) → passes asked (line, e) ≡ true → text ≡ text_in asked.json line e found
    → found ≡ looked_up e h → text ≡ shown_of asked h (line, e)
is_shown asked h line e found text asked_for is looked =
    is ∙ ap (text_in asked.json line e) looked ∙ ap (λ b. if b then line_of asked.json h line e else []) (sym asked_for)

module _ {X : Type 0} (m : Meaning X) (bytes : Option (List ℕ)) where
  -- ---- one event

  module _ (here : Place) (es : List (ℕ × Event)) (old new : X) (before : HasReplayed bytes m here es old) where
    pub looked_back : (e : Event) (look : History → Option RevisionRow) (r : Result (Option RevisionRow) Fault) → HasLookedBack m old new look r → ((h : History) → look h ≡ looked_up e h)
        → LooksUp bytes m here es old new e r
    looked_back e look (Ok found) looked same = record {
      clean = looked.leaves.survives.clean;
      replayed = looked_on m bytes here es old new _ found before looked;
      row = λ clean.
          looked.found (history_told es) (before.stands (looked.leaves.survives.clean clean)).is_of clean ∙ same (history_told es);
    }
    looked_back e look (Err fault) looked same = record {
      clean = looked.leaves.survives.clean;
      met = λ clean. looked.cause (history_told es) (before.stands (looked.leaves.survives.clean clean)).is_of clean;
    }

  pub not_looked_up : (here : Place) (es : List (ℕ × Event)) (office : X) (e : Event) → HasReplayed bytes m here es office → ((h : History) → None ≡ looked_up e h)
      → HasLookedUp bytes m here es office office e None
  not_looked_up here es office e before none = record { clean = λ clean. clean; replayed = before; row = λ clean. none (history_told es) }

  pub no_line : (here : Place) (es : List (ℕ × Event)) (office : X) (asked : Asked) (placed : ℕ × Event) (text : List ℕ) → HasReplayed bytes m here es office → passes asked placed ≡ false → text ≡ []
      → HasLine bytes m here es office office asked placed text
  no_line here es office asked placed text before not_asked empty = record {
    clean = λ clean. clean;
    replayed = before;
    line = λ clean. not_shown asked (history_told es) placed.0 placed.1 text not_asked empty;
  }

  pub a_line : (here : Place) (es : List (ℕ × Event)) (old new : X) (asked : Asked) (placed : ℕ × Event) (found : Option RevisionRow) (text : List ℕ)
      → HasLookedUp bytes m here es old new placed.1 found → passes asked placed ≡ true → text ≡ text_in asked.json placed.0 placed.1 found → HasLine bytes m here es old new asked placed text
  a_line here es old new asked placed found text looked asked_for is = record {
    clean = looked.clean;
    replayed = looked.replayed;
    line = λ clean. is_shown asked (history_told es) placed.0 placed.1 found text asked_for is (looked.row clean);
  }

  -- ---- one event more

  module _ (asked : Asked) (from out : Option (List ℕ)) where
    -- why it doesn't happen again
    halted_by : (here : Place) (es : List (ℕ × Event)) (office left : X) (placed : ℕ × Event) (line : ℕ) (w : Why) → HasWritten bytes asked from out m left here es (placed.0 - 1) office → ComesNext here placed
        → IsOut m office left placed line w → IsHalted bytes asked from out m left line w
    halted_by here es office left placed line (halt.Unread fault) written comes out = absurd out
    halted_by here es office left placed line halt.NotFounded written comes out = absurd out
    halted_by here es office left placed line (halt.Unfounded fault) written comes out = absurd out
    halted_by here es office left placed line (halt.Unreplayed cause) written comes kept = record {
      here = here;
      before = es;
      office = office;
      written = subst (λ (n : ℕ). HasWritten bytes asked from out m left here es (n - 1) office) (sym kept.0) written;
      event = placed.1;
      comes = subst (λ (n : ℕ). ComesNext here (n, placed.1)) (sym kept.0) comes;
      refused = kept.1;
    }

    module _ (here : Place) (es : List (ℕ × Event)) (old : X) (placed : ℕ × Event) (before : HasWritten bytes asked from out m old here es (placed.0 - 1) old) (comes : ComesNext here placed) where
      -- there is no line of it
      pub no_more : (new : X) (reason : Unwritten) → HasNoLine bytes m here es old new placed reason → IsStopped bytes m asked from out new reason
      no_more new (why.Refused refused) none = absurd none
      no_more new (why.Unseen line fault) none = record {
        here = here;
        before = es;
        office = old;
        written = subst (λ (n : ℕ). HasWritten bytes asked from out m new here es (n - 1) old) (sym none.0)
            (record { replayed = before.replayed; written = λ clean. before.written (none.1.clean clean) });
        event = placed.1;
        comes = subst (λ (n : ℕ). ComesNext here (n, placed.1)) (sym none.0) comes;
        met = none.1.met;
      }
      no_more new why.Write none = absurd none
      no_more new (why.NoMemory _) none =
          record { here = here; before = es; told = before.replayed.told; line = placed.0 - 1; none = inr (inl (placed, comes, refl)); written = λ clean. before.written (none clean) }

      module _ (seen new : X) (text : List ℕ) (line : HasLine bytes m here es old seen asked placed text) (survives : Survives m seen new) where
        -- it doesn't happen again
        pub kept_out : (refused : Refused) → IsOut m seen new placed refused.line refused.why → IsStopped bytes m asked from out new (why.Refused refused)
        kept_out refused out =
            halted_by here es seen new placed refused.line refused.why (record { replayed = line.replayed; written = λ clean. before.written (line.clean (survives.clean clean)) }) comes out

        -- it does, and its line is written
        pub written_next : (end : Option (List ℕ)) (result : Result ⊤ Unwritten) → HasHappened m seen new placed.1 → WritesText out end text result
            → WritesNext bytes m asked from end new (es ++ placed ∷ []) result
        written_next end (Ok done) happened wrote = record {
          lawful = more_lawful m bytes here es placed.0 placed.1 seen new line.replayed happened;
          stands = more_stands m bytes here es placed.0 placed.1 seen new line.replayed happened;
          written = λ clean.
              let was = survives.clean clean in
              subst (Appends from end) (sym (lines_with asked es placed))
              (Appends-trans from out end (lines_to asked es (placed.0 - 1)) (shown_of asked (history_told es) placed) (before.written (line.clean was)) (subst (Appends out end) (line.line was) wrote));
        }
        written_next end (Err reason) happened wrote = subst (IsStopped bytes m asked from end new) (sym wrote.0) (inl (record {
          here = here;
          before = es;
          placed = placed;
          told = line.replayed.told;
          comes = comes;
          lawful = more_lawful m bytes here es placed.0 placed.1 seen new line.replayed happened;
          stands = more_stands m bytes here es placed.0 placed.1 seen new line.replayed happened;
          written = λ clean.
              let was = survives.clean clean in
              let part = wrote.1 in
              let same = line.line was in (
                part.0,
                subst (λ (t : List ℕ). part.0 < length t) same part.1,
                Appends-trans from out end (lines_to asked es (placed.0 - 1)) (take part.0 (shown_of asked (history_told es) placed)) (before.written (line.clean was))
                    (subst (λ (t : List ℕ). Appends out end (take part.0 t)) same part.2),
              );
        }))

    -- the event stands, and so the next ones can
    pub written_on : (here behind : Place) (es : List (ℕ × Event)) (placed : ℕ × Event) (office : X) → GoesOn (start bytes) here es → GoesOn here behind (placed ∷ [])
        → AreWritten bytes m asked from out office (es ++ placed ∷ []) → HasWritten bytes asked from out m office behind (es ++ placed ∷ []) placed.0 office
    written_on here behind es placed office first on are = record {
      replayed = record { told = goes_then (start bytes) here behind es (placed ∷ []) first on; lawful = are.lawful; stands = are.stands };
      written = λ clean. subst (Appends from out) (ap (lines_to asked (es ++ placed ∷ [])) (last_is es placed)) (are.written clean);
    }

    -- ---- the lines for what is struck out

    -- they are written up to a line
    pub struck_written : (here : Place) (es : List (ℕ × Event)) (old left : X) (behind line : ℕ) (end : Option (List ℕ)) → left ≡ old → HasWritten bytes asked from out m old here es behind old → last_line es ≡ behind
        → Appends out end (struck_lines asked behind (line - behind)) → HasWritten bytes asked from end m left here es line left
    struck_written here es old left behind line end same before last wrote = record {
      replayed = subst (λ (x : X). HasReplayed bytes m here es x) (sym same) before.replayed;
      written = λ clean.
          let was = before.written (subst (λ (x : X). m.is_clean x) same clean) in
          Appends-trans from out end (lines_told asked es) (struck_lines asked (last_line es) (line - last_line es)) (subst (Appends from out) (no_more_lines asked es behind last) was)
          (subst (λ (n : ℕ). Appends out end (struck_lines asked n (line - n))) (sym last) wrote);
    }

    -- or they aren't
    pub struck_stopped : (here : Place) (es : List (ℕ × Event)) (old left : X) (behind line : ℕ) (end : Option (List ℕ)) (reason : Unwritten) → left ≡ old → HasWritten bytes asked from out m old here es behind old
        → last_line es ≡ behind → NoneTo here line → WritesPart out end (struck_lines asked behind (line - behind)) reason → IsStopped bytes m asked from end left reason
    struck_stopped here es old left behind line end (why.Refused refused) same before last none part = absurd part
    struck_stopped here es old left behind line end (why.Unseen number fault) same before last none part = absurd part
    struck_stopped here es old left behind line end why.Write same before last none part = inr (record {
      here = here;
      before = es;
      told = before.replayed.told;
      line = line;
      none = none;
      lawful = λ clean. inr (before.replayed.lawful (subst (λ (x : X). m.is_clean x) same clean));
      written = λ clean.
          let was = before.written (subst (λ (x : X). m.is_clean x) same clean) in
          let cut : AppendsPart out end (struck_lines asked (last_line es) (line - last_line es)) =
          subst (λ (n : ℕ). AppendsPart out end (struck_lines asked n (line - n))) (sym last) part in (
            cut.0,
            cut.1,
            Appends-trans from out end (lines_told asked es) (take cut.0 (struck_lines asked (last_line es) (line - last_line es))) (subst (Appends from out) (no_more_lines asked es behind last) was) cut.2,
          );
    })
    struck_stopped here es old left behind line end (why.NoMemory _) same before last none part = record {
      here = here;
      before = es;
      told = before.replayed.told;
      line = behind;
      none = inl (sym last);
      written = λ clean. subst (λ (o : Option (List ℕ)). Appends from o (lines_to asked es behind)) (sym part) (before.written (subst (λ (x : X). m.is_clean x) same clean));
    }

    -- ---- the last line that can be read

    -- all lines before it were written
    cut_at : (here after : Place) (es all : List (ℕ × Event)) (left : X) (line : ℕ) (fault : Unreadable) → GoesOn (start bytes) here es → LeavesAt here after line fault
        → all ≡ es ++ standing after.taken after.held → (m.is_clean left → IsLawfulHistory (history_told all)) → (m.is_clean left → Appends from out (lines_to asked all after.taken))
        → IsCutOff bytes asked from out m left line fault
    cut_at here after es all left line fault told at is lawful written =
        let last = at.leaves.last in
        let same : all ≡ es ++ standing last.taken last.held = is ∙ ap₂ (λ (n : ℕ) (h : Option Event). es ++ standing n h) at.leaves.taken at.leaves.held in
        record {
          last = last;
          before = es;
          told = subst (λ (xs : List (ℕ × Event)). GoesOn (start bytes) last xs) (append-nil es) (goes_then (start bytes) here last es [] told at.leaves.on);
          cannot = at.leaves.cannot;
          counted = at.counted ∙ ap line_behind at.leaves.taken;
          lawful = λ clean. subst (λ (xs : List (ℕ × Event)). IsLawfulHistory (history_told xs)) same (lawful clean);
          written = λ clean. subst (Appends from out) (ap₂ (λ (xs : List (ℕ × Event)) (n : ℕ). lines_to asked xs n) same at.leaves.taken) (written clean);
        }

    -- with that event
    pub cut_behind : (here after : Place) (es : List (ℕ × Event)) (placed : ℕ × Event) (left : X) (line : ℕ) (w : Why) → GoesOn (start bytes) here es → IsLeft here after line w
        → Some placed ≡ held_at after → AreWritten bytes m asked from out left (es ++ placed ∷ []) → IsHalted bytes asked from out m left line w
    cut_behind here after es placed left line (halt.Unread fault) told at is are =
        let last : last_line (es ++ placed ∷ []) ≡ after.taken = last_is es placed ∙ held_number after.taken after.held placed is in
        cut_at here after es (es ++ placed ∷ []) left line fault told at (ap (λ (xs : List (ℕ × Event)). es ++ xs) (sym (held_stands after.taken after.held placed is))) are.lawful
        (λ clean. subst (Appends from out) (ap (lines_to asked (es ++ placed ∷ [])) last) (are.written clean))
    cut_behind here after es placed left line halt.NotFounded told at is are = absurd at
    cut_behind here after es placed left line (halt.Unfounded fault) told at is are = absurd at
    cut_behind here after es placed left line (halt.Unreplayed cause) told at is are = absurd at

    -- or where none is
    pub cut_off : (here after : Place) (es : List (ℕ × Event)) (left : X) (line : ℕ) (w : Why) → HasWritten bytes asked from out m left here es after.taken left → IsLeft here after line w
        → None ≡ held_at after → IsHalted bytes asked from out m left line w
    cut_off here after es left line (halt.Unread fault) written at none =
        cut_at here after es es left line fault written.replayed.told at (sym (append-nil es) ∙ ap (λ (xs : List (ℕ × Event)). es ++ xs) (sym (none_stands after.taken after.held none)))
        written.replayed.lawful written.written
    cut_off here after es left line halt.NotFounded written at none = absurd at
    cut_off here after es left line (halt.Unfounded fault) written at none = absurd at
    cut_off here after es left line (halt.Unreplayed cause) written at none = absurd at

    -- no event stands up to it
    pub none_left : (here after : Place) (line : ℕ) (w : Why) → IsLeft here after line w → NoneTo here after.taken
    none_left here after line (halt.Unread fault) at = inr (at.leaves.last, begins_first here at.leaves.last [] at.leaves.on, at.leaves.taken)
    none_left here after line halt.NotFounded at = absurd at
    none_left here after line (halt.Unfounded fault) at = absurd at
    none_left here after line (halt.Unreplayed cause) at = absurd at

    -- ---- all of them

    -- the journal is at its end
    pub whole : (here end : Place) (es : List (ℕ × Event)) (old left : X) (behind : ℕ) (wrote : Option (List ℕ)) (result : Result ⊤ Unwritten) → left ≡ old → HasWritten bytes asked from out m old here es behind old
        → last_line es ≡ behind → Ends here end → WritesFirst out wrote (struck_lines asked behind (end.taken - behind)) result → WritesAll bytes m asked from wrote left result
    whole here end es old left behind wrote (Ok done) same before last ends are =
        let written = struck_written here es old left behind end.taken wrote same before last are in
        record {
          events = es;
          end = end;
          told = subst (Tells (start bytes)) (append-nil es) (before.replayed.told.tells [] ends.tells);
          begins = subst (Begins (start bytes) end) (append-nil es) (before.replayed.told.begins end [] ends.begins);
          whole = still_known (start bytes) here es (end.left ≡ Some []) before.replayed.told ends.left;
          held = ends.held;
          lawful = written.replayed.lawful;
          written = written.written;
        }
    whole here end es old left behind wrote (Err reason) same before last ends are =
        struck_stopped here es old left behind end.taken wrote reason same before last (inr (end, ends.begins, refl)) are

    -- the office is the same
    pub still_written : (here : Place) (es : List (ℕ × Event)) (count : ℕ) (old new : X) → new ≡ old → HasWritten bytes asked from out m old here es count old
        → HasWritten bytes asked from out m new here es count new
    still_written here es count old new same = subst (λ (x : X). HasWritten bytes asked from out m x here es count x) (sym same)

  -- ---- the first one

  module _ (asked : Asked) (old mid new : Option (List ℕ)) (here : Place) (placed : ℕ × Event) (office : X) (founding : IsFounding placed.1)
      (stands : m.is_clean office → Stands m (placed.1 ∷ []) office) (before : Appends old mid (struck_lines asked 0 (placed.0 - 1 - 0))) where
    first_lines : lines_to asked (placed ∷ []) placed.0 ≡ shown_behind asked 0 [] placed
    first_lines = no_more_lines asked (placed ∷ []) placed.0 refl ∙ append-nil (shown_behind asked 0 [] placed)

    all_first : Appends mid new (shown_of asked [] placed) → Appends old new (lines_to asked (placed ∷ []) placed.0)
    all_first wrote = subst (Appends old new) (sym first_lines) (Appends-trans old mid new (struck_lines asked 0 (placed.0 - 1 - 0)) (shown_of asked [] placed) before wrote)

    pub first_written : GoesOn (start bytes) here (placed ∷ []) → Appends mid new (shown_of asked [] placed) → HasWritten bytes asked old new m office here (placed ∷ []) placed.0 office
    first_written told wrote = record {
      replayed = record { told = told; lawful = λ clean. founding; stands = stands };
      written = λ clean. all_first wrote;
    }

    -- it is held back
    pub first_cut : (line : ℕ) (w : Why) → IsLeftHeld (start bytes) (Some placed) line w → Appends mid new (shown_of asked [] placed) → IsHalted bytes asked old new m office line w
    first_cut line (halt.Unread fault) at wrote =
        let same : placed ∷ [] ≡ standing at.last.taken at.last.held = sym (held_stands at.last.taken at.last.held placed (sym at.held)) in
        record {
          last = at.last;
          before = [];
          told = at.on;
          cannot = at.cannot;
          counted = at.counted;
          lawful = λ clean. subst (λ (xs : List (ℕ × Event)). IsLawfulHistory (history_told xs)) same founding;
          written = λ clean.
              subst (Appends old new) (ap₂ (λ (xs : List (ℕ × Event)) (n : ℕ). lines_to asked xs n) same (held_number at.last.taken at.last.held placed (sym at.held))) (all_first wrote);
        }
    first_cut line halt.NotFounded at wrote = absurd at
    first_cut line (halt.Unfounded fault) at wrote = absurd at
    first_cut line (halt.Unreplayed cause) at wrote = absurd at

    pub first_stopped : ComesNext (start bytes) placed → (reason : Unwritten) → WritesPart mid new (shown_of asked [] placed) reason → IsStopped bytes m asked old new office reason
    first_stopped comes (why.Refused refused) part = absurd part
    first_stopped comes (why.Unseen line fault) part = absurd part
    first_stopped comes why.Write part = inl (record {
      here = start bytes;
      before = [];
      placed = placed;
      told = stays (start bytes);
      comes = comes;
      lawful = λ clean. founding;
      stands = stands;
      written = λ clean. (part.0, part.1, Appends-trans old mid new (struck_lines asked 0 (placed.0 - 1 - 0)) (take part.0 (shown_of asked [] placed)) before part.2);
    })
    first_stopped comes (why.NoMemory _) part = record {
      here = start bytes;
      before = [];
      told = stays (start bytes);
      line = placed.0 - 1;
      none = inr (inl (placed, comes, refl));
      written = λ clean. subst (λ (o : Option (List ℕ)). Appends old o (struck_lines asked 0 (placed.0 - 1 - 0))) (sym part) before;
    }

  -- what is struck out before it isn't written
  pub none_first : (asked : Asked) (old new : Option (List ℕ)) (placed : ℕ × Event) (office : X) → ComesNext (start bytes) placed → (reason : Unwritten) → WritesPart old new (struck_lines asked 0 (placed.0 - 1 - 0)) reason
      → IsStopped bytes m asked old new office reason
  none_first asked old new placed office comes (why.Refused refused) part = absurd part
  none_first asked old new placed office comes (why.Unseen line fault) part = absurd part
  none_first asked old new placed office comes why.Write part = inr (record {
    here = start bytes;
    before = [];
    told = stays (start bytes);
    line = placed.0 - 1;
    none = inl (placed, comes, refl);
    lawful = λ clean. inl refl;
    written = λ clean. part;
  })
  none_first asked old new placed office comes (why.NoMemory _) part = record {
    here = start bytes;
    before = [];
    told = stays (start bytes);
    line = 0;
    none = inl refl;
    written = λ clean. subst (λ (o : Option (List ℕ)). Appends old o []) (sym part) (Appends-nil old);
  }

-- a text that is written, or not, is the first line
pub first_text : (old new : Option (List ℕ)) (text line : List ℕ) (result : Result ⊤ Unwritten) → text ≡ line → WritesText old new text result → WritesFirst old new line result
first_text old new text line (Ok done) same wrote = subst (Appends old new) same wrote
first_text old new text line (Err reason) same wrote =
    subst (WritesPart old new line) (sym wrote.0) (subst (AppendsPart old new) same wrote.1)

pub first_none : (old new : Option (List ℕ)) (line : List ℕ) (reason : Unwritten) → reason ≡ why.NoMemory witness → new ≡ old → WritesPart old new line reason
first_none old new line reason memory same = subst (WritesPart old new line) (sym memory) same

-- why not all lines were written, from the connection on
pub unwritten : {S : Type 0} (g : Ghosts S) (bytes : Option (List ℕ)) (asked : Asked) (old new : Option (List ℕ)) (conn left : Held S) (reason : Unwritten)
    → IsStopped bytes (meaning_over g) asked old new left reason → IsUnwritten bytes asked old new g conn left reason
unwritten g bytes asked old new conn left (why.Refused refused) stopped = inr stopped
unwritten g bytes asked old new conn left (why.Unseen line fault) stopped = stopped
unwritten g bytes asked old new conn left why.Write stopped = stopped
unwritten g bytes asked old new conn left (why.NoMemory _) stopped = stopped
