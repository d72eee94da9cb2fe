-- What was allowed, carried out in an office with a journal.
use Rattle.std.proofs.Common.{◌⊎◌, inl, inr, ◌≡◌, ◌∙◌, ◌≤◌, ◌+◌, [], ◌∷◌, ◌++◌, ℕ, List, Bool, true, false, not, Ok, Err, IsTrue, Option, Some, None, ◌-◌, ◌^◌, ◌==◌, if◌then◌else◌, length, min, refl, sym, ap, subst, arith, le_trans, append-nil, append_assoc}
use Rattle.std.proofs.lemmas.Bool.{and_parts, and_from}
use Rattle.review_policy.specs.declared.ask.Request.{Request}
use Rattle.office_words.specs.declared.fault.Fault.{Fault as TheFault}
use Rattle.office_words.specs.declared.fault.Fault.TheVariants as faults
use Rattle.review_policy.specs.declared.answer.Answer.{Answer}
use Rattle.review_policy.specs.declared.answer.Answer.TheVariants.{Done, Fault}
use Rattle.office_policy.specs.declared.judge.Allowed.{Allowed}
use Rattle.office_policy.specs.History.{Event, History}
use Rattle.office_policy.specs.Verdict.{Verdict, accepted, denied, verdict}
use Rattle.office_policy.specs.Runs.{IsAnswer, event_of, history_after, with_event as with_was}
use Rattle.office_policy.specs.Meaning.{Meaning, entry_of, no_entry, struck_entry_of}
use Rattle.office_policy.specs.Handled.{AddsBy, AddsStruck, AreBegun, AreInPart, AreWithEvent, HasCause, HasRisen, HasStray, HasStrayOf, IsFault, IsHandled, LeavesUndone, Stands, Survives, only_reads}
use Rattle.office_policy.specs.Judging.{IsAllowedTo, IsPermitted, LeavesAll, event_for}
use Rattle.office_policy.proofs.AskedFacts.{changing}
use Rattle.office_policy.proofs.SurvivalFacts.{closes_all, closes_by_fault, risen_after, risen_before, survives_on}
use Rattle.office_policy.proofs.CauseFacts.{cause_before}
use Rattle.sealed_log.specs.Sealed.{IsBody, no_seal, seal_of, sealed_line, sealed_text}
use Rattle.sealed_log.proofs.SealFacts.{sealed_lines-push}
use Rattle.office_policy.specs.EventForms.{HasForms, HasNumber}
use Rattle.journal.specs.Journal.{EndsWithEvent, IsEntry, IsJournalOf, Says}
use Rattle.journal.specs.Lines.{happened, strike, text_of}
use Rattle.journal.proofs.Lengths.{allowed_entry}
use Rattle.journal.specs.declared.journaled.Journaled.{Journaled}
use Rattle.journal.specs.Begun.{IsBegun, done_bodies}
use Rattle.journal.specs.Journals.{Adds, BeginsWith, Grows, HasAsStray, HasStruck, HasUnstruck, IsHalfStruck, IsOf, IsStray, IsStruck, IsStruckOr, IsTakenBack, IsUnstruck, KeepsJournal, begins_on, goes_on, is_clean, journaled, stops, struck_body, struck_none, text_begins, unsettled, with_office}
use Rattle.journal.specs.Writing.{IsAppended, IsLeftIn, IsMet, Writing}
use Rattle.journal.proofs.Offices.{all_left, caused, open_of, risen_first, risen_second, stands_with}
use Rattle.journal.proofs.Settling.{settled_says}
use Rattle.journal.proofs.Texts.{numbered_by, one_more, one_struck}
use Rattle.no_memory.specs.Witness.{witness}

by_flag : (b : Bool) → IsTrue (not b) → b ≡ false
by_flag true is = absurd (let c : false ≡ true = is in cc)
by_flag false is = refl

pub never_both : (b : Bool) → b ≡ true → b ≡ false → ⊥
never_both b is_true is_false = let c : true ≡ false = sym is_true ∙ is_false in absurd cc

same_length : (n : ℕ) → n ≤ n
same_length n = omega arith

none_below : (n : ℕ) → 0 ≤ n
none_below n = omega arith

module _ {O J : Type 0} (m : Meaning O) (w : Writing J) (x : Journaled O J) (goes : IsTrue (goes_on m w x)) (r : Request) (a : Allowed) (mid : O) (permitted : IsPermitted m x.office mid r a) where
  clean_at : m.is_clean mid → m.is_clean x.office
  clean_at = permitted.leaves.survives.clean

  still : LeavesAll (journaled m w) x (with_office x mid)
  still = all_left m w x mid permitted.leaves

  has_room : IsTrue (not x.has_stray)
  has_room = (and_parts (w.is_open x.journal) _ goes).1

  is_open : IsTrue (w.is_open x.journal)
  is_open = open_of m w x goes

  -- a stray of the office is one still, and its journal has none
  stays_in : (y : Journaled O J) → ((e : Event) → m.is_stray e x.office → m.is_stray e y.office) → (e : Event) → HasAsStray m w e x → HasAsStray m w e y
  stays_in y within e (inl stray) = inl (within e stray)
  stays_in y within e (inr last) = absurd (stops m w x last.stray goes)

  -- what else than a fault shuts it
  abbrev LeavesStray : History → Answer → Journaled O J → Type 0
  LeavesStray h told y = IsFault told × HasStrayOf (journaled m w) (verdict h r) y

  still_closes : (h : History) (told : Answer) → is_clean m w (with_office x mid) → (journaled m w).is_open x
      → (journaled m w).is_open (with_office x mid) ⊎ (HasRisen ((journaled m w).faults x) ((journaled m w).faults (with_office x mid)) ⊎ LeavesStray h told (with_office x mid))
  still_closes h told = closes_all (journaled m w) x (with_office x mid) (LeavesStray h told (with_office x mid)) still

  -- there was no memory for the line
  pub no_line : IsHandled (journaled m w) x (with_office x mid) r (Fault (faults.NoMemory witness))
  no_line = record {
    survives = still.survives;
    answer = λ h of clean. tt;
    cause = λ h of clean. inl (still.kept clean, λ left may. inl (still.crash clean left may));
    closes = λ h of. still_closes h (Fault (faults.NoMemory witness));
    approved = λ h of clean. tt;
    office = still.office;
    stands = λ h of clean. tt;
    kept = still.kept;
    adds = λ h of clean. inl (still.adds clean);
    crash = λ h of clean left may. inl (still.crash clean left may);
  }

  -- the event that is written
  abbrev event : Event
  event = event_for a

  -- what goes before it: that the last event is carried out, where no line says so yet
  abbrev settling : List (List ℕ)
  settling = done_bodies (unsettled w x)

  -- what it is written behind
  abbrev base : List (List ℕ)
  base = w.bodies x.journal ++ settling

  behind_base : (body : List ℕ) (bodies : List (List ℕ)) → bodies ≡ w.bodies x.journal ++ (settling ++ body ∷ []) → bodies ≡ base ++ body ∷ []
  behind_base body bodies is = is ∙ sym (append_assoc (w.bodies x.journal) settling (body ∷ []))

  module _ (body : List ℕ) (said : body ≡ text_of (happened event)) (own : HasNumber event → HasForms event) where
    module _ (h : History) (allowed : IsAllowedTo h r a) where
      formed : HasForms event
      formed = own (numbered_by a.caller.name r.ask event permitted.asked allowed.formed.number)

      entry : IsEntry (happened event)
      entry = allowed_entry h event allowed.lawful formed

      after_is : history_after h r (Done a.reply) ≡ event ∷ h
      after_is = ap (λ v. with_was (event_of v) h) allowed.verdict

    -- the text of what was allowed is never too long for a line
    pub no_body : (IsBody body → ⊥) → IsHandled (journaled m w) x (with_office x mid) r (Fault faults.Disk)
    no_body none = record {
      survives = still.survives;
      answer = λ h of clean. tt;
      cause = λ h of clean. absurd (none (subst IsBody (sym said) (entry h (permitted.allowed h of.office clean.0)).body));
      closes = λ h of. still_closes h (Fault faults.Disk);
      approved = λ h of clean. tt;
      office = still.office;
      stands = λ h of clean. tt;
      kept = still.kept;
      adds = λ h of clean. inl (still.adds clean);
      crash = λ h of clean left may. inl (still.crash clean left may);
    }

    module _ (h : History) (of : IsOf m w h x) (clean : m.is_clean mid) (clean_j : w.is_clean x.journal) where
      allowed : IsAllowedTo h r a
      allowed = permitted.allowed h of.office clean

      says : Says (w.bodies x.journal) h
      says = of.says (clean_at clean, clean_j) goes

      says_base : Says base h
      says_base = settled_says m w x goes h of (clean_at clean, clean_j)

      -- the bodies with that of the event say it too
      with_line : (bodies : List (List ℕ)) → bodies ≡ base ++ body ∷ [] → Says bodies (event ∷ h)
      with_line bodies is =
          subst (λ b. Says b (event ∷ h)) (sym (is ∙ ap (λ l. base ++ l ∷ []) said))
          (one_more base h event (entry h allowed) says_base)

      -- and say it no more where it is struck out
      with_strike : (bodies : List (List ℕ)) → bodies ≡ (base ++ body ∷ []) ++ text_of strike ∷ [] → Says bodies h
      with_strike bodies is =
          subst (λ b. Says b h) (sym (is ∙ ap (λ l. (base ++ l ∷ []) ++ text_of strike ∷ []) said))
          (one_struck base h event (entry h allowed) says_base)

      -- the lines are there, or what is left of them
      first_part : (left : List ℕ) → IsLeftIn (w.bodies x.journal) settling body left → IsBegun h event left
      first_part left part = record {
        before = w.bodies x.journal;
        says = says;
        settling = unsettled w x;
        settled = says_base;
        allowed = allowed.lawful;
        forms = formed h allowed;
        left = inl (subst (λ b. IsLeftIn (w.bodies x.journal) settling b left) said part);
      }

      -- and behind it what is left of the line that strikes it out
      half_line : (bodies : List (List ℕ)) (left : List ℕ) → bodies ≡ base ++ body ∷ [] → IsLeftIn bodies [] (text_of strike) left → IsBegun h event left
      half_line bodies left is part = record {
        before = w.bodies x.journal;
        says = says;
        settling = unsettled w x;
        settled = says_base;
        allowed = allowed.lawful;
        forms = formed h allowed;
        left = inr (subst (λ b. IsLeftIn b [] (text_of strike) left) (is ∙ ap (λ l. base ++ l ∷ []) said) part);
      }

      whole_line : (bodies : List (List ℕ)) (left : List ℕ) → bodies ≡ base ++ body ∷ [] → left ≡ sealed_text bodies → IsBegun h event left
      whole_line bodies left is whole = half_line bodies left is (record { tail = []; short = none_below _; is = whole ∙ sym (append-nil (sealed_text bodies)) })

      -- the office of the history is left, and its event was begun
      begun_left : (left : m.Left × List ℕ) → m.are_of h left.0 ⊎ m.are_begun h event left.0 → IsBegun h event left.1 → AreBegun (journaled m w) h (verdict h r) left
      begun_left left office begun = subst (λ v. AreBegun (journaled m w) h v left) (sym allowed.verdict) (office, begun)

    -- ---- the line was not written

    module _ (j : J) (fault : TheFault) (appended : IsAppended w x.journal j settling body (Err fault)) where
      abbrev unwritten : Journaled O J
      unwritten = record { office = mid; journal = j; has_stray = x.has_stray; is_settled = x.is_settled }

      clean_both : is_clean m w unwritten → is_clean m w x
      clean_both clean = (clean_at clean.0, appended.clean clean.1)

      unwritten_of : (h : History) → IsOf m w h x → IsOf m w h unwritten
      unwritten_of h of = record {
        office = permitted.leaves.office h of.office;
        says = λ clean on. subst (λ b. Says b h) (sym (appended.written.0 clean.1 (open_of m w unwritten on))) (of.says (clean_both clean) goes);
        ends = λ clean on unsettled. subst EndsWithEvent (sym (appended.written.0 clean.1 (open_of m w unwritten on))) (of.ends (clean_both clean) goes unsettled);
      }

      abbrev MoreFaults : Type 0
      MoreFaults = HasRisen (m.faults x.office + w.faults x.journal) (m.faults mid + w.faults j)

      risen : HasRisen (w.faults x.journal) (w.faults j) → MoreFaults
      risen more = risen_second (m.faults x.office) (w.faults x.journal) (m.faults mid) (w.faults j) permitted.leaves.survives.counts more

      -- only a fault shuts it
      closes : (Else : Type 0) → is_clean m w unwritten → m.is_open x.office → (m.is_open mid × IsTrue (goes_on m w unwritten)) ⊎ (MoreFaults ⊎ Else)
      closes Else clean stood = elim (closes_by_fault m x.office mid permitted.leaves.survives permitted.leaves.strays clean.0 stood) [
        | inl stays ↦ elim (appended.closes clean.1 is_open) [
          | inl stays_open ↦ inl (stays, and_from (w.is_open j) _ stays_open has_room)
          | inr more ↦ inr (inl (risen more))
        ]
        | inr more ↦ inr (inl (risen_first (m.faults x.office) (w.faults x.journal) (m.faults mid) (w.faults j) more appended.counts))
      ]

      told : (h : History) (f : TheFault) → IsMet w x.journal j f → IsAnswer h r (Fault f)
      told h (faults.NoMemory _) met = tt
      told h faults.Disk met = tt
      told h faults.Full met = tt
      told h faults.NotAnOffice met = met

      -- what a crash leaves could be left before, or has a part of the line
      left_unwritten : is_clean m w unwritten → (h : History) → IsOf m w h x → (left : m.Left × List ℕ) → (journaled m w).may_leave unwritten left
          → (journaled m w).may_leave x left ⊎ AreBegun (journaled m w) h (verdict h r) left
      left_unwritten clean h of left may = elim (appended.crash clean.1 left.1 may.1) [
        | inl before ↦ inl (permitted.leaves.crash clean.0 left.0 may.0, before)
        | inr part ↦
            inr (begun_left h of clean.0 (appended.clean clean.1) left (inl ((permitted.stands h of.office clean.0).leaves left.0 may.0))
            (first_part h of clean.0 (appended.clean clean.1) left.1 part.left))
      ]

      -- the journal is what it was
      same_bodies : is_clean m w unwritten → IsTrue (goes_on m w unwritten) → w.bodies j ≡ w.bodies x.journal
      same_bodies clean on = appended.written.0 clean.1 (open_of m w unwritten on)

      same_lines : is_clean m w unwritten → IsTrue (goes_on m w unwritten) → w.lines j ≡ w.lines x.journal
      same_lines clean on =
          w.counted j clean.1 (open_of m w unwritten on) ∙ ap (λ b. min (length b) (2 ^ 64 - 1)) (same_bodies clean on)
          ∙ sym (w.counted x.journal (appended.clean clean.1) is_open)

      none_added : is_clean m w unwritten → Adds m w no_entry x unwritten
      none_added clean on = (
        goes,
        same_bodies clean on,
        ap (λ n. if x.is_settled then None else if n == 2 ^ 64 - 1 then None else Some n) (same_lines clean on),
      )

      grown : is_clean m w unwritten → Grows m w x unwritten
      grown clean = record {
        bodies = λ on. (goes, record { more = []; is = same_bodies clean on ∙ sym (append-nil (w.bodies x.journal)) });
        files = λ file may. elim (appended.crash clean.1 file may) [
          | inl before ↦ inl before
          | inr part ↦ inr (goes, record { more = part.left.tail; is = part.left.is })
        ];
      }

      kept_still : is_clean m w unwritten → (journaled m w).keeps x unwritten
      kept_still clean = (
        permitted.leaves.kept clean.0,
        λ on. (goes, subst (HasStruck (w.bodies x.journal)) (sym (appended.written.0 clean.1 (open_of m w unwritten on))) (struck_none (w.bodies x.journal))),
      )

      cause : is_clean m w unwritten → (h : History) → IsOf m w h x → (f : TheFault) → IsMet w x.journal j f → HasCause (journaled m w) x unwritten h r (Fault f)
      cause clean h of (faults.NoMemory _) met = inl (kept_still clean, left_unwritten clean h of)
      cause clean h of faults.Disk met = λ stood. inl (risen (w.risen x.journal j faults.Disk (met is_open)))
      cause clean h of faults.Full met = inl (risen (w.risen x.journal j faults.Full met))
      cause clean h of faults.NotAnOffice met = met

      pub not_appended : IsHandled (journaled m w) x unwritten r (Fault fault)
      not_appended = record {
        survives = record {
          clean = clean_both;
          counts = omega (arith, appended.counts, permitted.leaves.survives.counts);
          closes = λ clean stood. closes (HasStray (journaled m w) unwritten) clean stood.0;
          shut = λ clean stood. (permitted.leaves.survives.shut clean.0 stood.0, goes);
          stays = stays_in unwritten permitted.leaves.survives.stays;
          grows = grown;
        };
        answer = λ h of clean. told h fault (appended.written.1 clean.1);
        cause = λ h of clean. cause clean h of fault (appended.written.1 clean.1);
        closes = λ h of clean stood. closes (LeavesStray h (Fault fault) unwritten) clean stood.0;
        approved = λ h of clean. tt;
        office = unwritten_of;
        stands = λ h of clean. tt;
        kept = kept_still;
        adds = λ h of clean. inl (none_added clean);
        crash = λ h of clean left may. elim (left_unwritten clean h of left may) [
          | inl before ↦ inl before
          | inr begun ↦ inr (inr begun)
        ];
      }

    -- ---- the line was written

    module _ (j : J) (appended : IsAppended w x.journal j settling body (Ok tt)) (o : O) (clean_mid : m.is_clean o → m.is_clean mid) where
      abbrev written : Journaled O J
      written = record { office = o; journal = j; has_stray = x.has_stray; is_settled = false }

      line_there : w.is_clean j → w.bodies j ≡ base ++ body ∷ []
      line_there clean = behind_base body (w.bodies j) (appended.written.1 clean)

      -- behind all that was there
      line_begins : w.is_clean j → BeginsWith (w.bodies x.journal) (w.bodies j)
      line_begins clean = record { more = settling ++ body ∷ []; is = appended.written.1 clean }

      file_begins : w.is_clean j → (file : List ℕ) → BeginsWith (sealed_text (w.bodies j)) file → BeginsWith (sealed_text (w.bodies x.journal)) file
      file_begins clean file begins = begins_on (sealed_text (w.bodies x.journal)) (sealed_text (w.bodies j)) file (text_begins (w.bodies x.journal) (w.bodies j) (line_begins clean)) begins

      whole_begins : w.is_clean j → (file : List ℕ) → w.may_leave j file → BeginsWith (sealed_text (w.bodies x.journal)) file
      whole_begins clean file may =
          file_begins clean file (record { more = []; is = w.settled j clean appended.written.0 file may ∙ sym (append-nil (sealed_text (w.bodies j))) })

      goes_still : IsTrue (goes_on m w written)
      goes_still = and_from (w.is_open j) _ appended.written.0 has_room

      -- ---- and what was allowed was done

      module _ (handled : IsHandled m x.office o r (Done a.reply)) where
        done_of : (h : History) → IsOf m w h x → IsOf m w (history_after h r (Done a.reply)) written
        done_of h of = record {
          office = handled.office h of.office;
          says = λ clean on.
              subst (Says (w.bodies j)) (sym (after_is h (permitted.allowed h of.office (clean_mid clean.0))))
              (with_line h of (clean_mid clean.0) (appended.clean clean.1) (w.bodies j) (line_there clean.1));
          ends = λ clean on unsettled. record {
            before = base;
            event = event;
            forms = formed h (permitted.allowed h of.office (clean_mid clean.0));
            is = line_there clean.1 ∙ ap (λ l. base ++ l ∷ []) said;
          };
        }

        done_stands : (h : History) → IsOf m w h x → is_clean m w written → Stands (journaled m w) (history_after h r (Done a.reply)) written
        done_stands h of clean = stands_with m w written (history_after h r (Done a.reply)) clean goes_still (done_of h of) (handled.stands h of.office clean.0)

        pub done : IsHandled (journaled m w) x written r (Done a.reply)
        done = record {
          survives = record {
            clean = λ clean. (handled.survives.clean clean.0, appended.clean clean.1);
            counts = omega (arith, handled.survives.counts, appended.counts);
            closes = λ clean stood. elim (handled.survives.closes clean.0 stood.0) [
              | inl stays ↦ inl (stays, goes_still)
              | inr (inl more) ↦ inr (inl (risen_first (m.faults x.office) (w.faults x.journal) (m.faults o) (w.faults j) more appended.counts))
              | inr (inr stray) ↦ inr (inr (stray.0, inl stray.1))
            ];
            shut = λ clean stood. (handled.survives.shut clean.0 stood.0, goes);
            stays = stays_in written handled.survives.stays;
            grows = λ clean. record { bodies = λ on. (goes, line_begins clean.1); files = λ file may. inr (goes, whole_begins clean.1 file may) };
          };
          answer = λ h of clean. handled.answer h of.office clean.0;
          cause = λ h of clean. tt;
          closes = λ h of clean stood. elim (handled.closes h of.office clean.0 stood.0) [
            | inl stays ↦ inl (stays, goes_still)
            | inr (inl more) ↦ inr (inl (risen_first (m.faults x.office) (w.faults x.journal) (m.faults o) (w.faults j) more appended.counts))
            | inr (inr stray) ↦ absurd stray.0
          ];
          approved = λ h of clean. handled.approved h of.office clean.0;
          office = done_of;
          stands = done_stands;
          kept = λ clean reads. absurd (never_both (only_reads r.ask) reads (changing a.caller.name r.ask event permitted.asked));
          adds = λ h of clean.
              let one : Adds m w (entry_of event) x written = λ on. (goes, appended.written.1 clean.1 ∙ ap (λ b. w.bodies x.journal ++ (settling ++ b ∷ [])) said) in
              subst (λ v. AddsBy (journaled m w) v (Done a.reply) x written) (sym (permitted.allowed h of.office (clean_mid clean.0)).verdict) one;
          crash = λ h of clean left may.
              let allowed = permitted.allowed h of.office (clean_mid clean.0) in
              let are : (journaled m w).are_of (event ∷ h) left = subst (λ k. (journaled m w).are_of k left) (after_is h allowed) ((done_stands h of clean).leaves left may) in
              inr (inl (subst (λ v. AreWithEvent (journaled m w) h v left) (sym allowed.verdict) are));
        }

      -- ---- and there was a fault

      module _ (fault : TheFault) (handled : IsHandled m x.office o r (Fault fault)) (z : Journaled O J) (told : Option Answer) (back : IsTakenBack m w r written z told) where
        -- the strike met a fault, or was not due
        abbrev Half : Type 0
        Half = (met : TheFault) × IsHalfStruck m w written z met

        abbrev Stray : Type 0
        Stray = (again : Answer) × IsStray m w r written z again

        became : (told : Option Answer) → IsStruckOr m w r written z told → IsStruck m w written z ⊎ (Half ⊎ Stray)
        became None struck = inl struck
        became (Some again) (inl stray) = inr (inr (again, stray))
        became (Some again) (inr half) = inr (inl (half.0, half.2))

        ended : IsStruck m w written z ⊎ (Half ⊎ Stray)
        ended = became told back.journal

        clean_before : m.is_clean z.office → m.is_clean o
        clean_before = back.leaves.survives.clean

        clean_z : m.is_clean z.office → m.is_clean mid
        clean_z clean = clean_mid (clean_before clean)

        clean_x : w.is_clean z.journal → w.is_clean x.journal
        clean_x clean = appended.clean (back.clean clean)

        survives_both : Survives m x.office z.office
        survives_both = survives_on m x.office o z.office handled.survives back.leaves.survives

        more_faults : w.faults x.journal ≤ w.faults z.journal
        more_faults = le_trans appended.counts back.counts

        abbrev HasMoreFaults : Type 0
        HasMoreFaults = HasRisen (m.faults x.office + w.faults x.journal) (m.faults z.office + w.faults z.journal)

        -- those of the office are more
        more_of : HasRisen (m.faults x.office) (m.faults z.office) → HasMoreFaults
        more_of more = risen_first (m.faults x.office) (w.faults x.journal) (m.faults z.office) (w.faults z.journal) more more_faults

        on_without : IsTrue (goes_on m w z) → z.has_stray ≡ false
        on_without on = by_flag z.has_stray (and_parts (w.is_open z.journal) _ on).1

        -- the bodies where the event is there, and where it is struck out
        one_there : w.is_clean z.journal → w.bodies j ≡ base ++ body ∷ []
        one_there clean = line_there (back.clean clean)

        both_there : IsStruck m w written z → w.is_clean z.journal → w.bodies z.journal ≡ (base ++ body ∷ []) ++ text_of strike ∷ []
        both_there struck clean = struck.bodies clean ∙ ap (λ b. b ++ text_of strike ∷ []) (one_there clean)

        -- ---- an event that wasn't struck out

        event_there : w.is_clean z.journal → w.bodies j ≡ base ++ text_of (happened event) ∷ []
        event_there clean = one_there clean ∙ ap (λ b. base ++ b ∷ []) said

        sealed_there : w.is_clean z.journal → (file : List ℕ) → file ≡ sealed_text (w.bodies j) → HasUnstruck event file
        sealed_there clean file is =
            let whole : IsLeftIn (w.bodies j) [] (text_of strike) file = record { tail = []; short = none_below _; is = is ∙ sym (append-nil (sealed_text (w.bodies j))) } in
            record { before = base; left = subst (λ b. IsLeftIn b [] (text_of strike) file) (event_there clean) whole }

        ends_file : Half ⊎ Stray → w.is_clean z.journal → (file : List ℕ) → w.may_leave z.journal file → HasUnstruck event file
        ends_file (inl half) clean file may = elim (half.1.append.crash clean file may) [
          | inl before ↦ sealed_there clean file (w.settled j (back.clean clean) appended.written.0 file before)
          | inr part ↦ record { before = base; left = subst (λ b. IsLeftIn b [] (text_of strike) file) (event_there clean) part.left }
        ]
        ends_file (inr stray) clean file may = sealed_there clean file (w.settled j (back.clean clean) appended.written.0 file (subst (λ k. w.may_leave k file) stray.1.journal may))

        unstruck_by : Half ⊎ Stray → IsUnstruck m w event z
        unstruck_by (inl half) = record { stray = half.1.stray; line = ends_file (inl half) }
        unstruck_by (inr stray) = record { stray = stray.1.stray; line = ends_file (inr stray) }

        -- the journal goes on, or has that event
        goes_by : (Else : Type 0) → (HasAsStray m w event z → Else) → IsStruck m w written z ⊎ (Half ⊎ Stray) → m.is_open z.office
            → (m.is_open z.office × IsTrue (goes_on m w z)) ⊎ (HasMoreFaults ⊎ Else)
        goes_by Else told (inl struck) stays = inl (stays, and_from (w.is_open z.journal) _ struck.is_open (subst (λ b. IsTrue (not b)) (sym struck.no_stray) refl))
        goes_by Else told (inr rest) stays = inr (inr (told (inr (unstruck_by rest))))

        closes_back : m.is_clean z.office → m.is_open x.office → (m.is_open z.office × IsTrue (goes_on m w z)) ⊎ (HasMoreFaults ⊎ HasStray (journaled m w) z)
        closes_back clean stood = elim (survives_both.closes clean stood) [
          | inl stays ↦ goes_by (HasStray (journaled m w) z) (λ is. (event, is)) ended stays
          | inr (inl more) ↦ inr (inl (more_of more))
          | inr (inr stray) ↦ inr (inr (stray.0, inl stray.1))
        ]

        -- the event of the verdict is a stray of the office, or of the journal
        stray_within : (v : Verdict) → HasStrayOf m v o → HasStrayOf (journaled m w) v z
        stray_within (accepted reply (Some e)) stray = inl (back.leaves.survives.stays e stray)
        stray_within (accepted reply None) stray = stray
        stray_within (denied denial told) stray = stray

        stray_last : (h : History) → IsAllowedTo h r a → HasAsStray m w event z → HasStrayOf (journaled m w) (verdict h r) z
        stray_last h allowed is = subst (λ v. HasStrayOf (journaled m w) v z) (sym allowed.verdict) is

        closes_of : (h : History) → IsOf m w h x → is_clean m w z → m.is_open x.office → (m.is_open z.office × IsTrue (goes_on m w z)) ⊎ (HasMoreFaults ⊎ LeavesStray h (Fault fault) z)
        closes_of h of clean stood =
            elim (handled.closes h of.office (clean_before clean.0) stood) [
              | inl still ↦ elim (closes_by_fault m o z.office back.leaves.survives back.leaves.strays clean.0 still) [
                | inl stays ↦ goes_by (LeavesStray h (Fault fault) z) (λ is. (tt, stray_last h (permitted.allowed h of.office (clean_z clean.0)) is)) ended stays
                | inr more ↦ inr (inl (more_of (risen_before (m.faults x.office) (m.faults o) (m.faults z.office) handled.survives.counts more)))
              ]
              | inr (inl more) ↦ inr (inl (more_of (risen_after (m.faults x.office) (m.faults o) (m.faults z.office) more back.leaves.survives.counts)))
              | inr (inr stray) ↦ inr (inr (tt, stray_within (verdict h r) stray.1))
            ]

        says_by : IsStruck m w written z ⊎ (Half ⊎ Stray) → (h : History) → IsOf m w h x → is_clean m w z
            → IsTrue (goes_on m w z) → Says (w.bodies z.journal) h
        says_by (inl struck) h of clean on = with_strike h of (clean_z clean.0) (clean_x clean.1) (w.bodies z.journal) (both_there struck clean.1)
        says_by (inr (inl half)) h of clean on = absurd (never_both z.has_stray half.1.stray (on_without on))
        says_by (inr (inr stray)) h of clean on = absurd (never_both z.has_stray stray.1.stray (on_without on))

        -- the event of the last line is struck out
        ends_by : IsStruck m w written z ⊎ (Half ⊎ Stray) → IsTrue (goes_on m w z) → z.is_settled ≡ false → EndsWithEvent (w.bodies z.journal)
        ends_by (inl struck) on unsettled = absurd (never_both z.is_settled struck.settled unsettled)
        ends_by (inr (inl half)) on unsettled = absurd (never_both z.has_stray half.1.stray (on_without on))
        ends_by (inr (inr stray)) on unsettled = absurd (never_both z.has_stray stray.1.stray (on_without on))

        back_of : (h : History) → IsOf m w h x → IsOf m w h z
        back_of h of = record {
          office = back.leaves.office h (handled.office h of.office);
          says = says_by ended h of;
          ends = λ clean on unsettled. ends_by ended on unsettled;
        }

        -- an event that is struck out is all that the journal has more
        keeps_by : IsStruck m w written z ⊎ (Half ⊎ Stray) → w.is_clean z.journal → KeepsJournal m w x z
        keeps_by (inl struck) clean on = (
          goes,
          record {
            events = (unsettled w x, event) ∷ [];
            is = both_there struck clean ∙ append_assoc base (body ∷ []) (text_of strike ∷ [])
                ∙ append_assoc (w.bodies x.journal) settling (body ∷ text_of strike ∷ [])
                ∙ ap (λ l. w.bodies x.journal ++ (settling ++ l ∷ text_of strike ∷ [])) said
                ∙ ap (λ l. w.bodies x.journal ++ l) (sym (append-nil (struck_body (unsettled w x, event))));
          },
        )
        keeps_by (inr (inl half)) clean on = absurd (never_both z.has_stray half.1.stray (on_without on))
        keeps_by (inr (inr stray)) clean on = absurd (never_both z.has_stray stray.1.stray (on_without on))

        -- and all that it had is there still
        all_there : w.is_clean z.journal → Grows m w x z
        all_there clean = record { bodies = bodies_by ended; files = files_by ended }
          where
            bodies_by : IsStruck m w written z ⊎ (Half ⊎ Stray) → IsTrue (goes_on m w z) → IsTrue (goes_on m w x) × BeginsWith (w.bodies x.journal) (w.bodies z.journal)
            bodies_by (inl struck) on = (goes, begins_on (w.bodies x.journal) (w.bodies j) (w.bodies z.journal) (line_begins (back.clean clean)) (record { more = text_of strike ∷ []; is = struck.bodies clean }))
            bodies_by (inr (inl half)) on = absurd (never_both z.has_stray half.1.stray (on_without on))
            bodies_by (inr (inr stray)) on = absurd (never_both z.has_stray stray.1.stray (on_without on))

            files_by : IsStruck m w written z ⊎ (Half ⊎ Stray) → (file : List ℕ) → w.may_leave z.journal file
                → w.may_leave x.journal file ⊎ (IsTrue (goes_on m w x) × BeginsWith (sealed_text (w.bodies x.journal)) file)
            files_by (inl struck) file may =
                inr (
                  goes,
                  file_begins (back.clean clean) file (subst (BeginsWith (sealed_text (w.bodies j))) (sym (w.settled z.journal clean struck.is_open file may))
                      (text_begins (w.bodies j) (w.bodies z.journal) (record { more = text_of strike ∷ []; is = struck.bodies clean }))),
                )
            files_by (inr (inl half)) file may = elim (half.1.append.crash clean file may) [
              | inl before ↦ inr (goes, whole_begins (back.clean clean) file before)
              | inr part ↦ inr (goes, file_begins (back.clean clean) file (record { more = part.left.tail; is = part.left.is }))
            ]
            files_by (inr (inr stray)) file may = inr (goes, whole_begins (back.clean clean) file (subst (λ k. w.may_leave k file) stray.1.journal may))

        -- its event is struck out, or the journal doesn't go on
        added : IsStruck m w written z ⊎ (Half ⊎ Stray) → (h : History) → IsOf m w h x → is_clean m w z → AddsBy (journaled m w) (verdict h r) (Fault fault) x z
        added (inl struck) h of clean =
            let one : Adds m w (struck_entry_of event) x z = λ on. (
              goes,
              both_there struck clean.1 ∙ append_assoc base (body ∷ []) (text_of strike ∷ []) ∙ append_assoc (w.bodies x.journal) settling (body ∷ text_of strike ∷ [])
                  ∙ ap (λ b. w.bodies x.journal ++ (settling ++ b ∷ text_of strike ∷ [])) said,
            ) in
            inr (subst (λ v. AddsStruck (journaled m w) v x z) (sym (permitted.allowed h of.office (clean_z clean.0)).verdict) one)
        added (inr (inl half)) h of clean = inl (λ on. absurd (never_both z.has_stray half.1.stray (on_without on)))
        added (inr (inr stray)) h of clean = inl (λ on. absurd (never_both z.has_stray stray.1.stray (on_without on)))

        module _ (h : History) (of : IsOf m w h x) (clean : m.is_clean z.office) (clean_j : w.is_clean z.journal) where
          -- the event was begun behind the journal of the history
          whole_file : (file : List ℕ) → w.may_leave j file → IsBegun h event file
          whole_file file may = whole_line h of (clean_z clean) (clean_x clean_j) (w.bodies j) file (one_there clean_j) (w.settled j (back.clean clean_j) appended.written.0 file may)

          part_file : (file : List ℕ) → IsLeftIn (w.bodies j) [] (text_of strike) file → IsBegun h event file
          part_file file part = half_line h of (clean_z clean) (clean_x clean_j) (w.bodies j) file (one_there clean_j) part

          struck_part : IsStruck m w written z → (file : List ℕ) → w.may_leave z.journal file → IsLeftIn (w.bodies j) [] (text_of strike) file
          struck_part struck file may = record {
            tail = sealed_line (seal_of (w.bodies j)) (text_of strike);
            short = same_length _;
            is = w.settled z.journal clean_j struck.is_open file may ∙ ap sealed_text (struck.bodies clean_j) ∙ sealed_lines-push no_seal (w.bodies j) (text_of strike);
          }

          file_begun : IsStruck m w written z ⊎ (Half ⊎ Stray) → (file : List ℕ) → w.may_leave z.journal file → IsBegun h event file
          file_begun (inl struck) file may = part_file file (struck_part struck file may)
          file_begun (inr (inl half)) file may = elim (half.1.append.crash clean_j file may) [
            | inl before ↦ whole_file file before
            | inr part ↦ part_file file part.left
          ]
          file_begun (inr (inr stray)) file may = whole_file file (subst (λ k. w.may_leave k file) stray.1.journal may)

          begun_by : (left : m.Left × List ℕ) → m.are_of h left.0 ⊎ m.are_begun h event left.0 → w.may_leave z.journal left.1 → AreBegun (journaled m w) h (verdict h r) left
          begun_by left office may = begun_left h of (clean_z clean) (clean_x clean_j) left office (file_begun ended left.1 may)

          -- the office stood before the line was written
          stood : (left : m.Left) → m.may_leave x.office left → m.are_of h left
          stood left may = (permitted.stood h of.office (clean_z clean)).leaves left may

          -- where the event wasn't struck out it may have happened
          by_office : Stray → (left : m.Left × List ℕ) → w.may_leave z.journal left.1 → m.may_leave x.office left.0 ⊎ AreInPart m h (verdict h r) left.0
              → AreInPart (journaled m w) h (verdict h r) left
          by_office stray left may (inl before) = inr (begun_by left (inl (stood left.0 before)) may)
          by_office stray left may (inr (inl with_one)) =
              let allowed = permitted.allowed h of.office (clean_z clean) in
              let are : m.are_of (event ∷ h) left.0 = subst (λ v. AreWithEvent m h v left.0) allowed.verdict with_one in
              let says : IsJournalOf left.1 (event ∷ h) = record {
                bodies = w.bodies j;
                is = w.settled j (back.clean clean_j) appended.written.0 left.1 (subst (λ k. w.may_leave k left.1) stray.1.journal may);
                says = with_line h of (clean_z clean) (clean_x clean_j) (w.bodies j) (one_there clean_j);
              } in
              inl (subst (λ v. AreWithEvent (journaled m w) h v left) (sym allowed.verdict) (are, says))
          by_office stray left may (inr (inr begun)) =
              inr (begun_by left (inr (subst (λ v. AreBegun m h v left.0) (permitted.allowed h of.office (clean_z clean)).verdict begun)) may)

          crash_by : IsStruck m w written z ⊎ (Half ⊎ Stray) → (left : m.Left × List ℕ) → (journaled m w).may_leave z left
              → AreInPart (journaled m w) h (verdict h r) left
          crash_by (inl struck) left may = inr (begun_by left (inl ((struck.stands h (handled.office h of.office) clean).leaves left.0 may.0)) may.1)
          crash_by (inr (inl half)) left may = inr (begun_by left (inl ((half.1.stands h (handled.office h of.office) clean).leaves left.0 may.0)) may.1)
          crash_by (inr (inr stray)) left may =
              by_office stray left may.1 (handled.crash h of.office (clean_before clean) left.0 (back.leaves.crash clean left.0 may.0))

          -- where nothing happened in the office, nothing did
          nothing_more : LeavesUndone m x.office z.office h (verdict h r) → LeavesUndone (journaled m w) x z h (verdict h r)
          nothing_more none = (
            (none.0, keeps_by ended clean_j),
            λ left may. elim (none.1 left.0 may.0) [
              | inl before ↦ inr (begun_by left (inl (stood left.0 before)) may.1)
              | inr begun ↦ inr (begun_by left (inr (subst (λ v. AreBegun m h v left.0) (permitted.allowed h of.office (clean_z clean)).verdict begun)) may.1)
            ],
          )

        pub taken_back : IsHandled (journaled m w) x z r (Fault fault)
        taken_back = record {
          survives = record {
            clean = λ clean. (survives_both.clean clean.0, clean_x clean.1);
            counts = omega (arith, survives_both.counts, more_faults);
            closes = λ clean stood. closes_back clean.0 stood.0;
            shut = λ clean stood. (survives_both.shut clean.0 stood.0, goes);
            stays = stays_in z survives_both.stays;
            grows = λ clean. all_there clean.1;
          };
          answer = λ h of clean. handled.answer h of.office (clean_before clean.0);
          cause = λ h of clean.
              caused m w x z h r (Fault fault) more_faults (nothing_more h of clean.0 clean.1)
              (cause_before m x.office o z.office h r (Fault fault) (back.leaves.kept clean.0, back.leaves.crash clean.0) back.leaves.survives.counts (handled.cause h of.office (clean_before clean.0)));
          closes = λ h of clean stood. closes_of h of clean stood.0;
          approved = λ h of clean. tt;
          office = back_of;
          stands = λ h of clean. tt;
          kept = λ clean. (m.keeps_on x.office o z.office (handled.kept (clean_before clean.0)) (back.leaves.kept clean.0), keeps_by ended clean.1);
          adds = λ h of clean. added ended h of clean;
          crash = λ h of clean left may. inr (crash_by h of clean.0 clean.1 ended left may);
        }
