-- What judging a request leaves of an office.
use Rattle.std.proofs.Common.{inl, inr, ◌⊎◌, ◌≡◌, ◌≢◌, ◌∙◌, List, ℕ, Bool, true, false, Option, Some, None, Result, Ok, Err, IsTrue, refl, sym, ap, subst}
use Rattle.sqlite.specs.Held.{Held, state}
use Rattle.sqlite.specs.State.{HasCleanDisk}
use Rattle.sqlite.specs.Store.{Ghosts}
use Rattle.office_words.specs.Words.{is_token}
use Rattle.review_policy.specs.declared.ask.Request.{Request}
use Rattle.review_policy.specs.declared.answer.Answer.TheVariants.{Done, Denied, Fault}
use Rattle.office_words.specs.declared.fault.Fault.{Fault as TheFault}
use Rattle.review_policy.specs.declared.answer.Reply.{Reply}
use Rattle.review_policy.specs.declared.denial.Denial.{Denial}
use Rattle.office_words.specs.declared.fault.Fault.TheVariants.{NoMemory, Disk, Full, NotAnOffice}
use Rattle.profile_text.specs.Digest.{digest_of}
use Rattle.office_policy.specs.declared.judge.Allowed.{Allowed}
use Rattle.office_policy.specs.declared.judge.Judgement.{Judgement}
use Rattle.office_policy.specs.declared.judge.Judgement.TheVariants as judgements
use Rattle.office_policy.specs.Users.{user_showing}
use Rattle.office_rows.specs.Causes.{HasFailed}
use Rattle.office_store.specs.Shown.{ShowsIfOpen}
use Rattle.office_policy.specs.History.{History}
use Rattle.office_policy.specs.Verdict.{Verdict, accepted, denied, verdict}
use Rattle.office_policy.specs.Formed.{HasForms, IsFormed}
use Rattle.office_policy.specs.Lawful.{IsLawfulHistory}
use Rattle.office_policy.specs.TablesOf.{tables_of}
use Rattle.office_policy.specs.Runs.{answer_of, event_of, with_event, IsAnswer}
use Rattle.office_policy.specs.Handled.{HasCause, HasStrayOf, IsFault, IsUnwritten, LacksMemory, RefusesEvent, Stands, Survives}
use Rattle.office_policy.specs.Judging.{IsAnswered, IsJudged, IsPermitted, LeavesAll, event_for}
use Rattle.office_policy.proofs.HeadlineFacts.{given_out_approved}
use Rattle.office_policy.proofs.LawFacts.{lawful_more, requested_allowed}
use Rattle.office_policy.proofs.Numbered.{numbered}
use Rattle.office_policy.proofs.SurvivalFacts.{closes_all, or_more}
use Rattle.office_judging.specs.declared.refusal.Refusal.{Refusal}
use Rattle.office_judging.specs.declared.refusal.Refusal.TheVariants as refusals
use Rattle.review_office.specs.Offices.{IsOffice}
use Rattle.review_office.specs.Told.{judgement_of}
use Rattle.office_judging.specs.Judged.{ComesTo, IsAskedBy, IsAskedIfAllowed, IsSettled, Judges, JudgesRequest, UnlessFault}
use Rattle.review_office.specs.Meant.{meaning_over}
use Rattle.review_office.specs.Replayed.{IsCaused}
use Rattle.office_judging.proofs.Judging.{never_both}
use Rattle.no_memory.specs.Witness.{witness}

-- ---- the office after a request

pub was_open_by : (old new : Bool) → (old ≡ false → new ≡ false) → IsTrue new → IsTrue old
was_open_by true new shut is_open = refl
was_open_by false new shut is_open = absurd (let k : new ≡ true = is_open in let c : true ≡ false = sym k ∙ shut refl in cc)

pub lawful_after : (h : History) (r : Request) (v : Verdict) → is_token r.token ≡ true → HasForms r.ask → verdict h r ≡ v → IsLawfulHistory h → IsLawfulHistory (with_event (event_of v) h)
lawful_after h r (accepted reply None) token forms is lawful = lawful
lawful_after h r (accepted reply (Some e)) token forms is lawful =
    lawful_more h e lawful (record { request = r; formed = record { token = token; forms = forms; number = numbered h lawful r reply e is }; reply = reply; allowed = is })
lawful_after h r (denied denial fault) token forms is lawful = lawful

pub passing : (h : History) (r : Request) (fault : TheFault) → fault ≢ NotAnOffice → IsAnswer h r (Fault fault)
passing h r (NoMemory _) passes = tt
passing h r Disk passes = tt
passing h r Full passes = tt
passing h r NotAnOffice passes = absurd (passes refl)

-- a fault over the connection is one of the office, which may refuse what was to be written
pub caused_by : {S : Type 0} (g : Ghosts S) (old new : Held S) (Refuses : TheFault → Type 0) (fault : TheFault) → fault ≢ NotAnOffice
    → (fault ≡ NoMemory witness → IsUnwritten (meaning_over g) old new ⊎ Refuses (NoMemory witness))
    → HasFailed (state g old) (state g new) fault ⊎ Refuses fault → IsCaused (meaning_over g) old new Refuses fault
caused_by g old new Refuses (NoMemory _) passes memory cause = memory refl
caused_by g old new Refuses Disk passes memory (inl (inl risen)) = λ is_open. inl risen
caused_by g old new Refuses Disk passes memory (inl (inr shut)) = λ is_open. never_both (state g old).is_open is_open shut
caused_by g old new Refuses Disk passes memory (inr refused) = λ is_open. inr refused
caused_by g old new Refuses Full passes memory cause = cause
caused_by g old new Refuses NotAnOffice passes memory cause = absurd (passes refl)

-- and so is that of a request
pub caused : {S : Type 0} (g : Ghosts S) (old new : Held S) (h : History) (r : Request) (fault : TheFault) → fault ≢ NotAnOffice → (fault ≡ NoMemory witness → LacksMemory (meaning_over g) old new h r)
    → HasFailed (state g old) (state g new) fault ⊎ RefusesEvent (meaning_over g) old h (verdict h r) fault → HasCause (meaning_over g) old new h r (Fault fault)
caused g old new h r (NoMemory _) passes memory cause = memory refl
caused g old new h r Disk passes memory cause = caused_by g old new (RefusesEvent (meaning_over g) old h (verdict h r)) Disk passes (λ is. absurd cc) cause
caused g old new h r Full passes memory cause = cause
caused g old new h r NotAnOffice passes memory cause = absurd (passes refl)

module _ {S : Type 0} (g : Ghosts S) (old new : Held S) where
  -- judging changes nothing
  pub left_all : {A : Type 0} {Found : History → A → Type 0} (result : Result A Refusal) (judge : History → Verdict) → Judges (state g old) (state g new) result judge Found → LeavesAll (meaning_over g) old new
  left_all result judge judged =
      let survives : Survives (meaning_over g) old new = record {
        clean = judged.clean;
        counts = judged.survives.counts;
        closes = λ clean is_open. or_more (judged.survives.closes clean is_open);
        shut = λ clean. was_open_by (state g old).is_open (state g new).is_open (judged.shut clean);
        stays = λ e stray. stray;
        grows = λ clean. tt;
      } in
      record {
        survives = survives;
        office = λ h office. record {
          idle = judged.idle;
          lawful = office.lawful;
          tables = λ clean. judged.shown (tables_of h) (office.tables (judged.clean clean)) clean;
        };
        kept = λ clean. record { shut = survives.shut clean; same = λ settled. judged.same settled clean };
        crash = judged.crash;
        adds = λ clean. tt;
        strays = λ e stray. stray;
      }

  module _ (leaves : LeavesAll (meaning_over g) old new) (was_settled : IsSettled (state g old)) (settled : IsSettled (state g new)) where
    stands : (h : History) → IsOffice h (state g new) → HasCleanDisk (state g new) → IsTrue (state g new).is_open → Stands (meaning_over g) h new
    stands h office clean is_open = record { is_of = office; is_open = is_open; leaves = settled (tables_of h) (office.tables clean is_open) }

    module _ (r : Request) (token : is_token r.token ≡ true) (forms : HasForms r.ask) where
      abbrev Always : (History → Type 0) → Type 0
      Always P = (h : History) → IsOffice h (state g old) → HasCleanDisk (state g new) → P h

      -- an office whose verdict adds no event
      unchanged : Always (λ h. event_of (verdict h r) ≡ None) → (h : History) → IsOffice h (state g old) → IsOffice (with_event (event_of (verdict h r)) h) (state g new)
      unchanged none h office = record {
        idle = (leaves.office h office).idle;
        lawful = lawful_after h r (verdict h r) token forms refl office.lawful;
        tables = λ clean. subst (λ e. ShowsIfOpen (state g new) (tables_of (with_event e h))) (sym (none h office clean)) ((leaves.office h office).tables clean);
      }

      module _ (is_open : HasCleanDisk (state g new) → IsTrue (state g new).is_open) where
        -- what only reads was answered
        answered_done : (reply : Reply) → Always (λ h. verdict h r ≡ accepted reply None) → IsAnswered (meaning_over g) old new r (Done reply)
        answered_done reply is =
            let none : Always (λ h. event_of (verdict h r) ≡ None) = λ h office clean. ap event_of (is h office clean) in
            let answer : Always (λ h. IsAnswer h r (Done reply)) = λ h office clean. sym (ap answer_of (is h office clean)) in
            record {
              leaves = leaves;
              handled = record {
                survives = leaves.survives;
                answer = answer;
                cause = λ h office clean. tt;
                closes = λ h office. closes_all (meaning_over g) old new (IsFault (Done reply) × HasStrayOf (meaning_over g) (verdict h r) new) leaves;
                approved = λ h office clean. given_out_approved h r (Done reply) office.lawful (answer h office clean);
                office = unchanged none;
                stands = λ h office clean. stands (with_event (event_of (verdict h r)) h) (unchanged none h office) clean (is_open clean);
                kept = λ clean reads. leaves.kept clean;
                adds = λ h office clean. tt;
                crash = λ h office clean left may. inl (leaves.crash clean left may);
              };
              same = λ h office clean. ap (λ e. with_event e h) (none h office clean);
            }

        -- a rule refused it
        answered_denied : (d : Denial) (fault : Option (List ℕ)) → Always (λ h. verdict h r ≡ denied d fault) → IsAnswered (meaning_over g) old new r (Denied d fault)
        answered_denied d fault is =
            let none : Always (λ h. event_of (verdict h r) ≡ None) = λ h office clean. ap event_of (is h office clean) in
            record {
              leaves = leaves;
              handled = record {
                survives = leaves.survives;
                answer = λ h office clean. sym (ap answer_of (is h office clean));
                cause = λ h office clean. tt;
                closes = λ h office. closes_all (meaning_over g) old new (IsFault (Denied d fault) × HasStrayOf (meaning_over g) (verdict h r) new) leaves;
                approved = λ h office clean. tt;
                office = unchanged none;
                stands = λ h office clean. stands (with_event (event_of (verdict h r)) h) (unchanged none h office) clean (is_open clean);
                kept = leaves.kept;
                adds = λ h office clean. tt;
                crash = λ h office clean left may. inl (leaves.crash clean left may);
              };
              same = λ h office clean. ap (λ e. with_event e h) (none h office clean);
            }

        -- it is allowed, and has an event
        permitted : (allowed : Allowed) → IsAskedBy r.ask allowed → Always (λ h. ComesTo (λ h. verdict h r) (λ h user. user_showing h (digest_of r.token) ≡ Some user) h (judgements.Allowed allowed))
            → IsPermitted (meaning_over g) old new r allowed
        permitted allowed asked comes = record {
          leaves = leaves;
          token = token;
          forms = forms;
          asked = asked;
          allowed = λ h office clean.
              let told = comes h office clean in
              let formed : IsFormed r = record { token = token; forms = forms; number = numbered h office.lawful r allowed.reply (event_for allowed) told.verdict } in
              record {
                formed = formed;
                caller = told.caller;
                verdict = told.verdict;
                next = told.next;
                lawful = requested_allowed h (event_for allowed) (record { request = r; formed = formed; reply = allowed.reply; allowed = told.verdict });
              };
          stood = λ h office clean.
              let before = leaves.survives.shut clean (is_open clean) in
              record { is_of = office; is_open = before; leaves = was_settled (tables_of h) (office.tables (leaves.survives.clean clean) before) };
          stands = λ h office clean. stands h (leaves.office h office) clean (is_open clean);
        }

      -- there was a fault
      answered_fault : (fault : TheFault) → Always (λ h. IsAnswer h r (Fault fault)) → Always (λ h. HasCause (meaning_over g) old new h r (Fault fault)) → IsAnswered (meaning_over g) old new r (Fault fault)
      answered_fault fault answer cause = record {
        leaves = leaves;
        handled = record {
          survives = leaves.survives;
          answer = answer;
          cause = cause;
          closes = λ h office. closes_all (meaning_over g) old new (IsFault (Fault fault) × HasStrayOf (meaning_over g) (verdict h r) new) leaves;
          approved = λ h office clean. tt;
          office = leaves.office;
          stands = λ h office clean. tt;
          kept = leaves.kept;
          adds = λ h office clean. inl tt;
          crash = λ h office clean left may. inl (leaves.crash clean left may);
        };
        same = λ h office clean. refl;
      }

  -- whatever it came to
  pub judged_is : (r : Request) → is_token r.token ≡ true → HasForms r.ask → (result : Result Judgement Refusal) → JudgesRequest (state g old) (state g new) result r → IsAskedIfAllowed r.ask result
      → (HasCleanDisk (state g new) → UnlessFault result (IsTrue (state g old).is_open)) → IsSettled (state g old) → IsSettled (state g new) → (told : Judgement) → told ≡ judgement_of result → IsJudged (meaning_over g) old new r told
  judged_is r token forms result judged has was_open was_settled settled told is = subst (IsJudged (meaning_over g) old new r) (sym is) (by_result result judged has was_open)
    where
      by_result : (result : Result Judgement Refusal) → JudgesRequest (state g old) (state g new) result r → IsAskedIfAllowed r.ask result
          → (HasCleanDisk (state g new) → UnlessFault result (IsTrue (state g old).is_open)) → IsJudged (meaning_over g) old new r (judgement_of result)
      by_result (Ok (judgements.Answered (Done reply))) judged has was_open =
          answered_done (left_all (Ok (judgements.Answered (Done reply))) (λ h. verdict h r) judged) was_settled settled r token forms (λ clean. judged.stays clean (was_open clean)) reply
          (λ h office clean. judged.told h office.lawful (office.tables (judged.clean clean)) clean)
      by_result (Ok (judgements.Answered (Denied d fault))) judged has was_open =
          answered_denied (left_all (Ok (judgements.Answered (Denied d fault))) (λ h. verdict h r) judged) was_settled settled r token forms (λ clean. judged.stays clean (was_open clean)) d fault
          (λ h office clean. absurd (judged.told h office.lawful (office.tables (judged.clean clean)) clean))
      by_result (Ok (judgements.Answered (Fault fault))) judged has was_open =
          answered_fault (left_all (Ok (judgements.Answered (Fault fault))) (λ h. verdict h r) judged) was_settled settled r token forms fault
          (λ h office clean. absurd (judged.told h office.lawful (office.tables (judged.clean clean)) clean))
          (λ h office clean. absurd (judged.told h office.lawful (office.tables (judged.clean clean)) clean))
      by_result (Ok (judgements.Allowed allowed)) judged has was_open =
          permitted (left_all (Ok (judgements.Allowed allowed)) (λ h. verdict h r) judged) was_settled settled r token forms (λ clean. judged.stays clean (was_open clean)) allowed has
          (λ h office clean. judged.told h office.lawful (office.tables (judged.clean clean)) clean)
      by_result (Err (refusals.Denied d fault)) judged has was_open =
          answered_denied (left_all {A = Judgement} (Err (refusals.Denied d fault)) (λ h. verdict h r) judged) was_settled settled r token forms (λ clean. judged.stays clean (was_open clean)) d fault
          (λ h office clean. judged.told h office.lawful (office.tables (judged.clean clean)) clean)
      by_result (Err (refusals.Fault fault)) judged has was_open =
          answered_fault (left_all {A = Judgement} (Err (refusals.Fault fault)) (λ h. verdict h r) judged) was_settled settled r token forms fault
          (λ h office clean. passing h r fault (judged.told h office.lawful (office.tables (judged.clean clean)) clean))
          (λ h office clean.
          let shows = office.tables (judged.clean clean) in
          let leaves = left_all {A = Judgement} (Err (refusals.Fault fault)) (λ h. verdict h r) judged in
          caused g old new h r fault (judged.told h office.lawful shows clean) (λ is. inl (leaves.kept clean, λ left may. inl (leaves.crash clean left may))) (inl (judged.cause h office.lawful shows clean)))
