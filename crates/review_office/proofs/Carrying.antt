-- How what was allowed is carried out, and what that leaves of an office.
use Rattle.std.proofs.Common.{inl, inr, arith, ◌⊎◌, ◌≡◌, ◌≢◌, ◌∙◌, [], ◌∷◌, ℕ, List, suc, Bool, true, false, Some, Result, Ok, Err, IsTrue, refl, sym, ap, subst}
use Rattle.std.specs.Prelude.{⊤}
use Rattle.sqlite.specs.Held.{Held, state}
use Rattle.sqlite.specs.State.{HasCleanDisk}
use Rattle.sqlite.specs.Store.{Ghosts}
use Rattle.sqlite_trees.specs.Tree.{Trees}
use Rattle.review_policy.specs.declared.act.Effect.{Effect}
use Rattle.review_policy.specs.declared.act.Effect.TheVariants.{Issues, Withdraws, Adopts}
use Rattle.review_policy.specs.declared.act.ProfileAct.TheVariants.{Hold, Release}
use Rattle.office_words.specs.declared.name.ProfileName.{ProfileName}
use Rattle.review_policy.specs.declared.ask.Request.{Request}
use Rattle.review_policy.specs.declared.answer.Answer.TheVariants.{Done, Fault}
use Rattle.office_words.specs.declared.role.Role.TheVariants.{Security}
use Rattle.review_policy.specs.Acts.{effect_of}
use Rattle.office_words.specs.Role.{has_role}
use Rattle.profile_text.specs.Digest.{digest_of}
use Rattle.office_words.specs.declared.fault.Fault.{Fault as TheFault}
use Rattle.office_words.specs.declared.fault.Fault.TheVariants.{NoMemory, NotAnOffice}
use Rattle.office_words.specs.declared.row.RevisionRow.{RevisionRow}
use Rattle.office_words.specs.Changes.{with_vote}
use Rattle.office_words.specs.Lists.{holds_role}
use Rattle.office_words.specs.Reads.{Adds, submitted as new_row}
use Rattle.office_words.specs.Tables.{Tables}
use Rattle.office_rows.specs.Causes.{HasFailed}
use Rattle.office_rows.specs.Statements.{IsCause}
use Rattle.office_rows.proofs.Sure.{met_between}
use Rattle.office_store.specs.Entries.{vote_entry}
use Rattle.office_store.specs.Refusing.{Write, adds_revision, puts_vote, statements_of, HaveOwnTokens, Makes, Stops}
use Rattle.office_store.specs.Shown.{IsIdle, Shows, ShowsIfOpen}
use Rattle.office_store.proofs.Refusals.{stops_for}
use Rattle.office_policy.specs.declared.change.Change.{Change}
use Rattle.office_policy.specs.declared.change.Change.TheVariants as changes
use Rattle.office_policy.specs.declared.judge.Allowed.{Allowed}
use Rattle.office_policy.specs.History.{Event, submitted, voted, on_revision, History}
use Rattle.office_policy.specs.Users.{user_of}
use Rattle.office_policy.specs.Revisions.{revision_count}
use Rattle.office_policy.specs.Verdict.{Verdict, accepted, verdict}
use Rattle.office_policy.specs.Lawful.{IsAllowed, IsLawfulHistory}
use Rattle.office_policy.specs.TablesOf.{tables_of}
use Rattle.office_policy.specs.Runs.{IsAnswer, answer_of, event_of, with_event}
use Rattle.office_policy.specs.Handled.{AreInPart, AreWithEvent, HasRisen, HasStrayOf, IsFault, IsHandled, RefusesEvent, Stands, Survives, only_reads}
use Rattle.office_policy.specs.Happened.{event_by}
use Rattle.office_policy.specs.Judging.{IsNext, IsPermitted, LeavesAll, answer_in, event_for}
use Rattle.office_policy.proofs.AskedFacts.{changing}
use Rattle.office_policy.proofs.EventFacts.{enrolled_tables, submitted_tables, voted_tables, acted_tables, tables_after, effect_tables}
use Rattle.office_policy.proofs.HeadlineFacts.{given_out_approved}
use Rattle.office_policy.proofs.LawFacts.{ActAllowed, act_follows, allowed_follows, lawful_apart}
use Rattle.office_policy.proofs.Submissions.{next_free}
use Rattle.office_policy.proofs.SurvivalFacts.{closes_without, or_more, survives_on}
use Rattle.office_policy.proofs.UserFacts.{showing_is}
use Rattle.review_office.specs.Carries.{Asks, write_by, write_of, write_on_revision}
use Rattle.review_office.specs.Offices.{IsOffice}
use Rattle.review_office.specs.Meant.{Keeps, meaning_over}
use Rattle.review_office.proofs.Handling.{caused, lawful_after, passing, was_open_by}
use Rattle.office_judging.proofs.Judging.{never_both}
use Rattle.no_memory.specs.Witness.{witness}

-- ---- what is written

-- what is written where this write makes the tables with this event
abbrev MakesWith : History → Event → Write → Type 0
MakesWith h e w = Makes w (tables_of h) (tables_of (e ∷ h))

module _ (h : History) (lawful : IsLawfulHistory h) (allowed : Allowed) (known : user_of h allowed.caller.name ≡ Some allowed.caller) where
  -- the vote is kept with whether its voter holds security, by the voter's row
  vote_made : (p : ProfileName) (n : ℕ) (digest : List ℕ) (approves : Bool)
      → MakesWith h (voted allowed.caller.name p n digest approves) (puts_vote (vote_entry p n allowed.caller.name approves (has_role allowed.caller.roles Security)))
  vote_made p n digest approves =
      sym
      (ap (λ s. with_vote p n allowed.caller.name (record { approves = approves; security = s }) (tables_of h)) (ap (λ u. holds_role u Security) (sym known))
      ∙ voted_tables h allowed.caller.name p n digest approves)

  -- the revision is the next one, which is free
  revision_made : (p : ProfileName) (row : RevisionRow) → row ≡ new_row (suc (revision_count h p)) allowed.caller.name row.body (digest_of row.body)
      → MakesWith h (submitted allowed.caller.name p row.body) (adds_revision p row)
  revision_made p row is =
      subst (λ r. Adds p r (tables_of h) (tables_of (submitted allowed.caller.name p row.body ∷ h))) (sym is)
      (next_free h p, sym (submitted_tables h lawful allowed.caller.name p row.body))

  -- the write of an effect makes the tables with it
  effect_made : (effect : Effect) (p : ProfileName) (n : ℕ) → ActAllowed h effect p n → Makes (write_on_revision effect p n) (tables_of h) (tables_after h effect p n)
  effect_made Issues p n may = sym (effect_tables h Issues p n may)
  effect_made Withdraws p n may = sym (effect_tables h Withdraws p n may)
  effect_made Adopts p n may = sym (effect_tables h Adopts p n may)

  -- the write of a change makes the tables with its event
  makes_of : (change : Change) → IsAllowed h (event_by allowed.caller.name change) → IsNext h allowed.caller.name change
      → MakesWith h (event_by allowed.caller.name change) (write_by allowed.caller change)
  makes_of (changes.Enrol user) may next = sym (enrolled_tables h allowed.caller.name user.name user.team user.roles user.digest)
  makes_of (changes.AddRevision p row) may next = revision_made p row next
  makes_of (changes.Vote p n digest approves) may next = vote_made p n digest approves
  makes_of (changes.ActOnRevision act p n) may next =
      effect_made (effect_of act) p n (act_follows h allowed.caller.name act p n (allowed_follows h (on_revision allowed.caller.name act p n) may))
  makes_of (changes.ActOnProfile Hold p) may next = sym (acted_tables h allowed.caller.name Hold p)
  makes_of (changes.ActOnProfile Release p) may next = sym (acted_tables h allowed.caller.name Release p)

-- ---- what that leaves

module _ {S : Type 0} (g : Ghosts S) (old new : Held S) where
  -- a call of the store survives
  pub call_survives : (w : Write) (result : Result ⊤ TheFault) → Asks g w old new result → Survives (meaning_over g) old new
  call_survives w result asks = record {
    clean = asks.written.leaves.clean;
    counts = asks.written.leaves.survives.counts;
    closes = λ clean is_open. or_more (asks.written.leaves.survives.closes clean is_open);
    shut = λ clean. was_open_by (state g old).is_open (state g new).is_open (λ shut. (asks.written.leaves.shut clean shut).0);
    stays = λ e stray. stray;
    grows = λ clean. tt;
  }

-- this was allowed on a history to a user of then
pub record IsGranted (h : History) (allowed : Allowed) (v : Verdict) : Type 0 where
  pub known : user_of h allowed.caller.name ≡ Some allowed.caller
  pub verdict : v ≡ accepted allowed.reply (Some (event_for allowed))
  pub next : IsNext h allowed.caller.name allowed.change
  pub lawful : IsAllowed h (event_for allowed)

-- a lawful history goes on by what is allowed
pub lawful_with : (h : History) (e : Event) → IsLawfulHistory h → IsAllowed h e → IsLawfulHistory (e ∷ h)
lawful_with [] e lawful may = absurd lawful
lawful_with (f ∷ h) e lawful may = (may, lawful)

-- a write of what was allowed, where nothing was changed before
module _ {S : Type 0} (g : Ghosts S) (before old new : Held S) (allowed : Allowed) (judge : History → Verdict) (leaves : LeavesAll (meaning_over g) before old)
    (granted : (h : History) → IsOffice h (state g before) → HasCleanDisk (state g old) → IsGranted h allowed (judge h)) where
  abbrev w : Write
  w = write_of allowed

  makes : (h : History) → IsLawfulHistory h → (to : IsGranted h allowed (judge h)) → MakesWith h (event_for allowed) w
  makes h lawful to = makes_of h lawful allowed to.known allowed.change to.lawful to.next

  module _ (result : Result ⊤ TheFault) (asks : Asks g w old new result) where
    pub written_survives : Survives (meaning_over g) before new
    written_survives = survives_on (meaning_over g) before old new leaves.survives (call_survives g old new w result asks)

    -- what is allowed where the disk is clean
    pub granted_at : (h : History) → IsOffice h (state g before) → HasCleanDisk (state g new) → IsGranted h allowed (judge h)
    granted_at h office clean = granted h office (asks.written.leaves.clean clean)

    shows_at : (h : History) → IsOffice h (state g before) → HasCleanDisk (state g new) → ShowsIfOpen (state g old) (tables_of h)
    shows_at h office clean = (leaves.office h office).tables (asks.written.leaves.clean clean)

    pub written_crash : (h : History) → IsOffice h (state g before) → HasCleanDisk (state g new) → (trees : Trees) → (state g new).may_leave trees
        → (state g before).may_leave trees ⊎ AreWithEvent (meaning_over g) h (judge h) trees
    written_crash h office clean trees may =
        let to = granted_at h office clean in
        elim (asks.written.crash (tables_of h) (tables_of (event_for allowed ∷ h)) (shows_at h office clean) (makes h office.lawful to) clean trees may) [
          | inl earlier ↦ inl (leaves.crash (asks.written.leaves.clean clean) trees earlier)
          | inr left ↦ inr (subst (λ v. AreWithEvent (meaning_over g) h v trees) (sym to.verdict) left)
        ]

    -- it never faults the form of the tables
    pub written_formed : (h : History) → IsOffice h (state g before) → HasCleanDisk (state g new) → result ≢ Err NotAnOffice
    written_formed h office clean =
        let to = granted_at h office clean in
        asks.written.formed (tables_of h) (tables_of (event_for allowed ∷ h)) (shows_at h office clean) (makes h office.lawful to) clean

  -- it is written, and the tables are those with the event
  pub written_shows : (asks : Asks g w old new (Ok tt)) → (h : History) → IsOffice h (state g before) → HasCleanDisk (state g new)
      → Shows (state g new) (tables_of (with_event (event_of (judge h)) h))
  written_shows asks h office clean =
      let to = granted_at (Ok tt) asks h office clean in
      subst (λ v. Shows (state g new) (tables_of (with_event (event_of v) h))) (sym to.verdict)
      (asks.written.done (tables_of h) (tables_of (event_for allowed ∷ h)) (shows_at (Ok tt) asks h office clean) (makes h office.lawful to) clean)

  -- and stands so
  pub written_stands : (asks : Asks g w old new (Ok tt)) → (h : History) → IsOffice h (state g before) → HasCleanDisk (state g new)
      → IsLawfulHistory (with_event (event_of (judge h)) h) → Stands (meaning_over g) (with_event (event_of (judge h)) h) new
  written_stands asks h office clean lawful =
      let shown = written_shows asks h office clean in
      record {
        is_of = record { idle = asks.written.leaves.idle; lawful = lawful; tables = λ clean is_open. shown };
        is_open = shown.is_open;
        leaves = asks.written.leaves.settled (tables_of (with_event (event_of (judge h)) h)) shown;
      }

  -- there was a fault
  module _ (fault : TheFault) (asks : Asks g w old new (Err fault)) where
    -- over what was there SQLite doesn't write it
    stopped : (f : TheFault) → ((t u : Tables) → Makes w t u → HaveOwnTokens u → IsIdle (state g old) → Shows (state g old) t → Stops g w old f)
        → (h : History) → IsOffice h (state g before) → HasCleanDisk (state g new) → IsTrue (state g old).is_open → RefusesEvent (meaning_over g) before h (judge h) f
    stopped f stops h office clean is_open =
        let to = granted_at (Err fault) asks h office clean in
        let clean_old = asks.written.leaves.clean clean in
        let kept = leaves.kept clean_old in
        let same = kept.same (office.tables (leaves.survives.clean clean_old) (kept.shut is_open)).settled is_open in
        let made = makes h office.lawful to in
        let idle = (leaves.office h office).idle in
        let shows = shows_at (Err fault) asks h office clean is_open in
        subst (λ v. RefusesEvent (meaning_over g) before h v f) (sym to.verdict) (record {
          write = w;
          makes = made;
          over = old;
          now = same.0;
          committed = same.1;
          idle = idle;
          shows = shows;
          refused = stops (tables_of h) (tables_of (event_for allowed ∷ h)) made (lawful_apart (event_for allowed ∷ h) (lawful_with h (event_for allowed) office.lawful to.lawful)) idle shows;
        })

    pub unwritten_cause : (h : History) → IsOffice h (state g before) → HasCleanDisk (state g new) → IsTrue (state g old).is_open
        → HasFailed (state g before) (state g new) fault ⊎ RefusesEvent (meaning_over g) before h (judge h) fault
    unwritten_cause h office clean is_open =
        elim (asks.cause clean).met [
          | inl met ↦ inl (met_between (state g before) (state g old) (state g new) (state g new) fault leaves.survives.counts (omega arith) (never_both (state g old).is_open is_open) met)
          | inr refused ↦ inr (stopped fault (λ t u makes own idle shows. stops_for g w old new t u fault makes own idle shows (asks.cause clean).cause refused) h office clean is_open)
        ]

    -- or has no memory for it
    pub unwritten_memory : (h : History) → IsOffice h (state g before) → HasCleanDisk (state g new) → IsTrue (state g old).is_open → fault ≡ NoMemory witness
        → RefusesEvent (meaning_over g) before h (judge h) (NoMemory witness)
    unwritten_memory h office clean is_open is = stopped (NoMemory witness) (λ t u makes own idle shows. (new, subst (IsCause g (statements_of w) old new) is (asks.cause clean).cause)) h office clean is_open

    pub unwritten_office : (h : History) → IsOffice h (state g before) → IsOffice h (state g new)
    unwritten_office h office = record {
      idle = asks.written.leaves.idle;
      lawful = office.lawful;
      tables = λ clean. asks.written.undone (tables_of h) (shows_at (Err fault) asks h office clean) clean;
    }

    pub unwritten_kept : HasCleanDisk (state g new) → Keeps (state g before) (state g new)
    unwritten_kept clean =
        (meaning_over g).keeps_on before old new (leaves.kept (asks.written.leaves.clean clean))
        (record { shut = (call_survives g old new w (Err fault) asks).shut clean; same = λ settled. asks.written.same settled clean })

module _ {S : Type 0} (g : Ghosts S) (before old new : Held S) (r : Request) (allowed : Allowed)
    (permitted : IsPermitted (meaning_over g) before old r allowed) where
  -- the caller is the user who shows the token
  granted : (h : History) → IsOffice h (state g before) → HasCleanDisk (state g old) → IsGranted h allowed (verdict h r)
  granted h office clean =
      let to = permitted.allowed h office clean in
      record {
        known = (showing_is h (digest_of r.token) allowed.caller to.caller).0;
        verdict = to.verdict;
        next = to.next;
        lawful = to.lawful;
      }

  -- only a fault shuts it
  shuts : (result : Result ⊤ TheFault) → Asks g (write_of allowed) old new result → (Else : Type 0) → HasCleanDisk (state g new) → IsTrue (state g before).is_open
      → IsTrue (state g new).is_open ⊎ (HasRisen (state g before).faults (state g new).faults ⊎ Else)
  shuts result asks Else = closes_without (meaning_over g) before new Else (written_survives g before old new allowed (λ h. verdict h r) permitted.leaves granted result asks) (λ e none. none)

  -- a crash leaves what it could, or the event too
  in_part : (result : Result ⊤ TheFault) → Asks g (write_of allowed) old new result → (h : History) → IsOffice h (state g before) → HasCleanDisk (state g new) → (trees : Trees)
      → (state g new).may_leave trees → (state g before).may_leave trees ⊎ AreInPart (meaning_over g) h (verdict h r) trees
  in_part result asks h office clean trees may =
      elim (written_crash g before old new allowed (λ h. verdict h r) permitted.leaves granted result asks h office clean trees may) [
        | inl earlier ↦ inl earlier
        | inr with_event ↦ inr (inl with_event)
      ]

  -- it is written
  done : Asks g (write_of allowed) old new (Ok tt) → IsHandled (meaning_over g) before new r (Done allowed.reply)
  done asks =
      let answer : (h : History) → IsOffice h (state g before) → HasCleanDisk (state g new) → IsAnswer h r (Done allowed.reply) = λ h office clean.
      sym (ap answer_of (granted_at g before old new allowed (λ h. verdict h r) permitted.leaves granted (Ok tt) asks h office clean).verdict) in
      let lawful : (h : History) → IsOffice h (state g before) → IsLawfulHistory (with_event (event_of (verdict h r)) h) = λ h office.
      lawful_after h r (verdict h r) permitted.token permitted.forms refl office.lawful in
      record {
        survives = written_survives g before old new allowed (λ h. verdict h r) permitted.leaves granted (Ok tt) asks;
        answer = answer;
        cause = λ h office clean. tt;
        closes = λ h office. shuts (Ok tt) asks (IsFault (Done allowed.reply) × HasStrayOf (meaning_over g) (verdict h r) new);
        approved = λ h office clean. given_out_approved h r (Done allowed.reply) office.lawful (answer h office clean);
        office = λ h office. record {
          idle = asks.written.leaves.idle;
          lawful = lawful h office;
          tables = λ clean is_open. written_shows g before old new allowed (λ h. verdict h r) permitted.leaves granted asks h office clean;
        };
        stands = λ h office clean. written_stands g before old new allowed (λ h. verdict h r) permitted.leaves granted asks h office clean (lawful h office);
        kept = λ clean reads. absurd (let k : only_reads r.ask ≡ true = reads in let c : true ≡ false = sym k ∙ changing allowed.caller.name r.ask (event_for allowed) permitted.asked in cc);
        adds = λ h office clean. tt;
        crash = in_part (Ok tt) asks;
      }

  -- there was a fault
  failed : (fault : TheFault) → Asks g (write_of allowed) old new (Err fault) → IsHandled (meaning_over g) before new r (Fault fault)
  failed fault asks =
      let formed : (h : History) → IsOffice h (state g before) → HasCleanDisk (state g new) → fault ≢ NotAnOffice = λ h office clean same.
      written_formed g before old new allowed (λ h. verdict h r) permitted.leaves granted (Err fault) asks h office clean (ap Err same) in
      record {
        survives = written_survives g before old new allowed (λ h. verdict h r) permitted.leaves granted (Err fault) asks;
        answer = λ h office clean. passing h r fault (formed h office clean);
        cause = λ h office clean.
            let is_open = (permitted.stands h office (asks.written.leaves.clean clean)).is_open in
            caused g before new h r fault (formed h office clean)
            (λ is. inr (unwritten_memory g before old new allowed (λ h. verdict h r) permitted.leaves granted fault asks h office clean is_open is))
            (unwritten_cause g before old new allowed (λ h. verdict h r) permitted.leaves granted fault asks h office clean is_open);
        closes = λ h office. shuts (Err fault) asks (IsFault (Fault fault) × HasStrayOf (meaning_over g) (verdict h r) new);
        approved = λ h office clean. tt;
        office = unwritten_office g before old new allowed (λ h. verdict h r) permitted.leaves granted fault asks;
        stands = λ h office clean. tt;
        kept = unwritten_kept g before old new allowed (λ h. verdict h r) permitted.leaves granted fault asks;
        adds = λ h office clean. inl tt;
        crash = in_part (Err fault) asks;
      }

  -- whatever it came to
  pub carried_is : (result : Result ⊤ TheFault) → Asks g (write_of allowed) old new result → IsHandled (meaning_over g) before new r (answer_in allowed result)
  carried_is (Ok tt) asks = done asks
  carried_is (Err fault) asks = failed fault asks
