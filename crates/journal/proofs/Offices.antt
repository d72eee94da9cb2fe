-- An office with a journal, where the office alone was asked.
use Rattle.std.proofs.Common.{inl, inr, ◌≡◌, ◌∙◌, ◌≤◌, ◌+◌, ◌∷◌, [], ℕ, true, false, Some, None, IsTrue, refl, sym, ap, subst, arith, length, append-nil}
use Rattle.std.proofs.lemmas.Bool.{and_parts}
use Rattle.review_policy.specs.declared.ask.Ask.{Ask}
use Rattle.review_policy.specs.declared.ask.Request.{Request}
use Rattle.review_policy.specs.declared.answer.Answer.{Answer}
use Rattle.review_policy.specs.declared.answer.Answer.TheVariants.{Done, Denied, Fault}
use Rattle.office_words.specs.declared.fault.Fault.{Fault as TheFault}
use Rattle.office_words.specs.declared.fault.Fault.TheVariants as faults
use Rattle.office_policy.specs.History.{Event, History}
use Rattle.office_policy.specs.Verdict.{Verdict, accepted, denied, verdict}
use Rattle.office_policy.specs.Runs.{event_of, history_after, with_event}
use Rattle.office_policy.specs.Meaning.{Meaning, no_entry}
use Rattle.office_policy.specs.Handled.{HasCause, HasRisen, HasStrayOf, IsFault, IsHandled, AddsBy, IsMet, LeavesUndone, RefusesEvent, Stands, Survives, UnlessChanged, UnlessFaulty}
use Rattle.office_policy.specs.Judging.{IsAnswered, LeavesAll}
use Rattle.office_policy.proofs.SurvivalFacts.{closes_all}
use Rattle.journal.specs.Journal.{Says}
use Rattle.journal.specs.declared.journaled.Journaled.{Journaled}
use Rattle.journal.specs.Journals.{Adds, Grows, HasAsStray, IsOf, goes_on, is_clean, journaled, struck_none, with_office}
use Rattle.journal.specs.Writing.{Writing}
use Rattle.no_memory.specs.Witness.{witness}

-- ---- counts of faults

pub risen_first : (a b x y : ℕ) → HasRisen a x → b ≤ y → HasRisen (a + b) (x + y)
risen_first a b x y risen more = omega (arith, risen, more)

pub risen_second : (a b x y : ℕ) → a ≤ x → HasRisen b y → HasRisen (a + b) (x + y)
risen_second a b x y more risen = omega (arith, more, risen)

pub none_fewer : (n : ℕ) → n ≤ n
none_fewer n = omega arith

-- ---- what holds whatever was answered

pub kept_anyhow : (a : Ask) (told : Answer) (P : Type 0) → P → UnlessChanged a told P
kept_anyhow a (Done reply) P p = λ reads. p
kept_anyhow a (Denied denial fault) P p = p
kept_anyhow a (Fault fault) P p = p

pub unless_faulty : (told : Answer) (P Q : Type 0) → (P → Q) → UnlessFaulty told P → UnlessFaulty told Q
unless_faulty (Done reply) P Q to p = to p
unless_faulty (Denied denial fault) P Q to p = to p
unless_faulty (Fault fault) P Q to p = tt

-- no history is the one with an event more
longer : (e : Event) (h : History) → e ∷ h ≡ h → ⊥
longer e h is = omega (arith, ap length is)

module _ {O J : Type 0} (m : Meaning O) (w : Writing J) where
  -- it is open, where it goes on
  pub open_of : (x : Journaled O J) → IsTrue (goes_on m w x) → IsTrue (w.is_open x.journal)
  open_of x goes = (and_parts (w.is_open x.journal) _ goes).0

  -- ---- causes

  refused : (x : Journaled O J) (h : History) (v : Verdict) (fault : TheFault) → RefusesEvent m x.office h v fault → RefusesEvent (journaled m w) x h v fault
  refused x h (accepted reply (Some e)) fault is = is
  refused x h (accepted reply None) fault is = absurd is
  refused x h (denied denial told) fault is = absurd is

  pub met : (x y : Journaled O J) (h : History) (r : Request) (fault : TheFault) → w.faults x.journal ≤ w.faults y.journal
      → IsMet m x.office y.office h r fault → IsMet (journaled m w) x y h r fault
  met x y h r fault more (inl risen) = inl (risen_first (m.faults x.office) (w.faults x.journal) (m.faults y.office) (w.faults y.journal) risen more)
  met x y h r fault more (inr refuses) = inr (refused x h (verdict h r) fault refuses)

  pub caused : (x y : Journaled O J) (h : History) (r : Request) (told : Answer) → w.faults x.journal ≤ w.faults y.journal
      → (LeavesUndone m x.office y.office h (verdict h r) → LeavesUndone (journaled m w) x y h (verdict h r)) → HasCause m x.office y.office h r told → HasCause (journaled m w) x y h r told
  caused x y h r (Done reply) more undone cause = tt
  caused x y h r (Denied denial fault) more undone cause = tt
  caused x y h r (Fault (faults.NoMemory _)) more undone (inl none) = inl (undone none)
  caused x y h r (Fault (faults.NoMemory _)) more undone (inr refuses) = inr (refused x h (verdict h r) (faults.NoMemory witness) refuses)
  caused x y h r (Fault faults.Disk) more undone cause = λ is_open. met x y h r faults.Disk more (cause is_open.0)
  caused x y h r (Fault faults.Full) more undone cause = met x y h r faults.Full more cause
  caused x y h r (Fault faults.NotAnOffice) more undone cause = cause

  -- ---- what stands

  -- an office that stands, with the journal that says its history, stands with it
  pub stands_with : (x : Journaled O J) (h : History) → is_clean m w x → IsTrue (goes_on m w x) → IsOf m w h x → Stands m h x.office → Stands (journaled m w) h x
  stands_with x h clean goes of stands = record {
    is_of = of;
    is_open = (stands.is_open, goes);
    leaves = λ left may. (
      stands.leaves left.0 may.0,
      record {
        bodies = w.bodies x.journal;
        is = w.settled x.journal clean.1 (open_of x goes) left.1 may.1;
        says = of.says clean goes;
      },
    );
  }

  module _ (x : Journaled O J) (office : O) (leaves : LeavesAll m x.office office) where
    still_of : (h : History) → IsOf m w h x → IsOf m w h (with_office x office)
    still_of h of = record {
      office = leaves.office h of.office;
      says = λ clean goes. of.says (leaves.survives.clean clean.0, clean.1) goes;
      ends = λ clean goes unsettled. of.ends (leaves.survives.clean clean.0, clean.1) goes unsettled;
    }

    -- a stray is one still
    stays : (e : Event) → HasAsStray m w e x → HasAsStray m w e (with_office x office)
    stays e (inl within) = inl (leaves.survives.stays e within)
    stays e (inr last) = inr (record { stray = last.stray; line = last.line })

    -- and none came
    strays : (e : Event) → HasAsStray m w e (with_office x office) → HasAsStray m w e x
    strays e (inl within) = inl (leaves.strays e within)
    strays e (inr last) = inr (record { stray = last.stray; line = last.line })

    same_journal : (o : O) → Grows m w x (with_office x o)
    same_journal o = record {
      bodies = λ goes. (goes, record { more = []; is = sym (append-nil (w.bodies x.journal)) });
      files = λ file may. inl may;
    }

    survives : Survives (journaled m w) x (with_office x office)
    survives = record {
      clean = λ clean. (leaves.survives.clean clean.0, clean.1);
      counts = omega (arith, leaves.survives.counts);
      closes = λ clean is_open. elim (leaves.survives.closes clean.0 is_open.0) [
        | inl still ↦ inl (still, is_open.1)
        | inr (inl risen) ↦ inr (inl (risen_first (m.faults x.office) (w.faults x.journal) (m.faults office) (w.faults x.journal) risen (none_fewer (w.faults x.journal))))
        | inr (inr stray) ↦ inr (inr (stray.0, inl stray.1))
      ];
      shut = λ clean is_open. (leaves.survives.shut clean.0 is_open.0, is_open.1);
      stays = stays;
      grows = λ clean. same_journal office;
    }

    -- nothing was changed
    pub all_left : LeavesAll (journaled m w) x (with_office x office)
    all_left = record {
      survives = survives;
      office = still_of;
      kept = λ clean. (leaves.kept clean.0, λ goes. (goes, struck_none (w.bodies x.journal)));
      crash = λ clean left may. (leaves.crash clean.0 left.0 may.0, may.1);
      adds = λ clean goes. (goes, refl, refl);
      strays = strays;
    }

  -- nothing is written down of what was answered
  none_added : (x y : Journaled O J) (v : Verdict) (h : History) (r : Request) (told : Answer) → verdict h r ≡ v → history_after h r told ≡ h
      → Adds m w no_entry x y → AddsBy (journaled m w) v told x y
  none_added x y (accepted reply (Some e)) h r (Done other) is same none =
      absurd (longer e h (sym (ap (λ v. with_event (event_of v) h) is) ∙ same))
  none_added x y (accepted reply None) h r (Done other) is same none = none
  none_added x y (denied denial fault) h r (Done other) is same none = none
  none_added x y v h r (Denied denial fault) is same none = none
  none_added x y v h r (Fault fault) is same none = inl none

  -- the office answered the request
  pub answered : (x : Journaled O J) (office : O) (r : Request) (told : Answer) → IsTrue (goes_on m w x) → IsAnswered m x.office office r told
      → IsHandled (journaled m w) x (with_office x office) r told
  answered x office r told goes is =
      let all : LeavesAll (journaled m w) x (with_office x office) = all_left x office is.leaves in
      let of_after : (h : History) → IsOf m w h x → IsOf m w (history_after h r told) (with_office x office) = λ h of. record {
        office = is.handled.office h of.office;
        says = λ clean goes. subst (Says (w.bodies x.journal)) (sym (is.same h of.office clean.0)) (of.says (is.leaves.survives.clean clean.0, clean.1) goes);
        ends = λ clean goes unsettled. of.ends (is.leaves.survives.clean clean.0, clean.1) goes unsettled;
      } in
      record {
        survives = all.survives;
        answer = λ h of clean. is.handled.answer h of.office clean.0;
        cause = λ h of clean.
            caused x (with_office x office) h r told (none_fewer (w.faults x.journal)) (λ none. (all.kept clean, λ left may. inl (all.crash clean left may))) (is.handled.cause h of.office clean.0);
        closes = λ h of. closes_all (journaled m w) x (with_office x office) (IsFault told × HasStrayOf (journaled m w) (verdict h r) (with_office x office)) all;
        approved = λ h of clean. is.handled.approved h of.office clean.0;
        office = of_after;
        stands = λ h of clean.
            unless_faulty told (Stands m (history_after h r told) office) (Stands (journaled m w) (history_after h r told) (with_office x office))
            (stands_with (with_office x office) (history_after h r told) clean goes (of_after h of)) (is.handled.stands h of.office clean.0);
        kept = λ clean. kept_anyhow r.ask told ((journaled m w).keeps x (with_office x office)) (all.kept clean);
        adds = λ h of clean. none_added x (with_office x office) (verdict h r) h r told refl (is.same h of.office clean.0) (all.adds clean);
        crash = λ h of clean left may. inl (all.crash clean left may);
      }

  -- an office whose journal doesn't go on is shut
  shut : (x : Journaled O J) → goes_on m w x ≡ false → IsTrue (goes_on m w x) → ⊥
  shut x ends goes = let k : goes_on m w x ≡ true = goes in let c : true ≡ false = sym k ∙ ends in absurd cc
