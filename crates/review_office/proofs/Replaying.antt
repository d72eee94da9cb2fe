-- How an event happens again, and what that leaves of an office.
use Rattle.std.proofs.Common.{inl, inr, ◌≡◌, ◌∙◌, ℕ, List, true, false, Option, Some, None, Result, Ok, Err, IsErrAnd, IsTrue, refl, sym, ap, subst}
use Rattle.std.specs.Prelude.{⊤, Vec, bytes_eq, option_and_then, is_none}
use Rattle.std.specs.declared.alloc.Global.{Global}
use Rattle.sqlite.specs.Held.{Held, state}
use Rattle.sqlite.specs.State.{HasCleanDisk}
use Rattle.sqlite.specs.Store.{Ghosts}
use Rattle.profile_text.specs.Reading.{reading_of}
use Rattle.profile_text.specs.Text.{text_of}
use Rattle.profile_text.specs.declared.fault.DocFault.{DocFault}
use Rattle.profile_text.specs.declared.profile.Profile.{Profile}
use Rattle.profile_text.proofs.ReadBack.{read_again}
use Rattle.review_policy.specs.declared.ask.Ask.{Ask}
use Rattle.review_policy.specs.declared.ask.Ask.TheVariants as ask
use Rattle.office_words.specs.declared.name.ProfileName.{ProfileName}
use Rattle.office_words.specs.declared.fault.Fault.TheVariants as faults
use Rattle.review_policy.specs.declared.answer.Reply.{Reply}
use Rattle.review_policy.specs.declared.answer.Reply.TheVariants as reply
use Rattle.review_policy.specs.declared.denial.Denial.{Denial}
use Rattle.review_policy.specs.Rules.{first_denial, vote_rules, submit_rules, behind_caller}
use Rattle.office_words.specs.declared.fault.Fault.{Fault}
use Rattle.office_words.specs.declared.row.UserRow.{UserRow}
use Rattle.office_policy.specs.declared.change.Change.{Change}
use Rattle.office_policy.specs.declared.change.Change.TheVariants as changes
use Rattle.office_policy.specs.declared.judge.Allowed.{Allowed}
use Rattle.office_policy.specs.declared.judge.Judgement.{Judgement}
use Rattle.office_policy.specs.declared.judge.Judgement.TheVariants as judgements
use Rattle.office_policy.specs.Callers.{caller_of}
use Rattle.office_policy.specs.Facts.{is_text_of, submit_facts, vote_facts}
use Rattle.office_policy.specs.Formed.{HasForms, HasNumber}
use Rattle.office_policy.specs.Handled.{AreWithEvent, RefusesEvent, Stands, Survives, only_reads}
use Rattle.office_policy.specs.History.{Event, founded, enrolled, submitted, voted, on_revision, on_profile, History}
use Rattle.office_policy.specs.Happened.{event_by}
use Rattle.office_policy.specs.Judging.{IsNext, LeavesAll, event_for}
use Rattle.office_policy.specs.Lawful.{IsAllowed, IsLawfulHistory}
use Rattle.office_policy.specs.Revisions.{revision_of, revision_count, last_revision, issued_revision, is_author}
use Rattle.office_policy.specs.Runs.{event_of, with_event}
use Rattle.office_policy.specs.TablesOf.{tables_of}
use Rattle.office_policy.specs.Users.{user_of, name_of}
use Rattle.office_policy.specs.Verdict.{Verdict, accepted, denied, given_of, new_revision, seen_of, verdict_of, rules_of, done_of}
use Rattle.office_policy.proofs.CallerFacts.{allowed_by}
use Rattle.office_policy.proofs.GivenOut.{carried_out_of}
use Rattle.office_policy.proofs.LawFacts.{done_to_by, of_revision_by, of_user_by, revision_there}
use Rattle.office_policy.proofs.Numbered.{number_there}
use Rattle.office_policy.proofs.RuleFacts.{none_refuses}
use Rattle.office_policy.proofs.SurvivalFacts.{left_itself, survives_none}
use Rattle.office_policy.proofs.UserFacts.{bytes_same, same_bytes, user_named}
use Rattle.office_judging.specs.declared.refusal.Refusal.{Refusal}
use Rattle.office_judging.specs.declared.refusal.Refusal.TheVariants as refusals
use Rattle.review_office.specs.declared.replay.Unreplayed.{Unreplayed}
use Rattle.review_office.specs.declared.replay.Unreplayed.TheVariants as causes
use Rattle.review_office.specs.Carries.{Asks, write_of}
use Rattle.office_judging.specs.Judged.{IsAskedBy, IsAskedIfAllowed, IsSettled, JudgesNamed}
use Rattle.review_office.specs.Meant.{meaning_over}
use Rattle.review_office.specs.Offices.{IsOffice}
use Rattle.review_office.specs.Replayed.{HasNoAsk, HasOtherText, IsAskOf, IsDeniedBy, IsReplayed, LeavesWith, added, has_text, unreplayed_of, verdict_for}
use Rattle.review_office.proofs.Carrying.{IsGranted, lawful_with, unwritten_cause, unwritten_kept, unwritten_memory, unwritten_office, written_crash, written_formed, written_stands, written_survives}
use Rattle.office_judging.proofs.Verdicts.{allowed_is}
use Rattle.review_office.proofs.Handling.{caused_by, left_all}
use Rattle.no_memory.specs.Witness.{witness}

-- ---- what an event asks

module _ (h : History) (lawful : IsLawfulHistory h) (caller : Option UserRow) where
  -- and names a number of its form where no rule refuses it
  asks_numbered : (e : Event) (a : Ask) → IsAskOf e a → first_denial (rules_of h caller a) ≡ Ok tt → HasNumber a
  asks_numbered (founded n t d l) a is none = absurd is
  asks_numbered (enrolled c n t r d) a is none = subst HasNumber (sym is) tt
  asks_numbered (submitted c p text) a is none = subst HasNumber (sym is.2) tt
  asks_numbered (voted c p n d approves) a is none =
      subst HasNumber (sym is)
      (number_there h lawful p n
      (none_refuses 1 (behind_caller (is_none caller) (vote_rules (vote_facts caller (revision_of h p n) (is_author h p (name_of caller)) d))) (subst (λ b. first_denial (rules_of h caller b) ≡ Ok tt) is none)).1.1.0)
  asks_numbered (on_revision c act p n) a is none =
      subst HasNumber (sym is) (number_there h lawful p n (revision_there h caller act p n (subst (λ b. first_denial (rules_of h caller b) ≡ Ok tt) is none)))
  asks_numbered (on_profile c act p) a is none = subst HasNumber (sym is) tt

some_same : {A : Type 0} (x y : A) → Some x ≡ Some y → x ≡ y
some_same x y is = cc

submitted_text : (b c : List ℕ) (p q : ProfileName) (text other : List ℕ) → submitted b p text ≡ submitted c q other → text ≡ other
submitted_text b c p q text other is = cc

-- the text of the revision that is added, where its event is a submission
added_text : (who c : List ℕ) (q : ProfileName) (text other : List ℕ) (change : Change) → event_by who change ≡ submitted c q text
    → is_text_of (Some other) (added change) ≡ bytes_eq other text
added_text who c q text other (changes.Enrol user) is = absurd cc
added_text who c q text other (changes.AddRevision p row) is = ap (bytes_eq other) (submitted_text who c p q row.body text is)
added_text who c q text other (changes.Vote p n d approves) is = absurd cc
added_text who c q text other (changes.ActOnRevision act p n) is = absurd cc
added_text who c q text other (changes.ActOnProfile act p) is = absurd cc

-- where it is allowed to the caller of the event, and has its text, it happens again
pub happens_again : (e : Event) (a : Ask) (allowed : Allowed) → IsAskOf e a → caller_of e ≡ Some allowed.caller.name → has_text e allowed.change ≡ true → IsAskedBy a allowed → event_for allowed ≡ e
happens_again (founded n t d l) a allowed is caller text asked = absurd is
happens_again (enrolled c n t r d) a allowed is caller text asked =
    some_same _ _ (subst (λ b. IsAskedBy b allowed) is asked) ∙ ap (λ who. enrolled who n t r d) (sym (some_same c allowed.caller.name caller))
happens_again (submitted c p text) a allowed is caller same asked =
    let handed = subst (λ b. IsAskedBy b allowed) is.2 asked in
    let happened = some_same _ _ handed.happened in
    let body : text ≡ text_of handed.read = same_bytes text (text_of handed.read) (sym (added_text allowed.caller.name allowed.caller.name p (text_of handed.read) text allowed.change happened) ∙ same) in
    happened ∙ ap (λ who. submitted who p (text_of handed.read)) (sym (some_same c allowed.caller.name caller)) ∙ ap (submitted c p) (sym body)
happens_again (voted c p n d approves) a allowed is caller text asked =
    some_same _ _ (subst (λ b. IsAskedBy b allowed) is asked) ∙ ap (λ who. voted who p n d approves) (sym (some_same c allowed.caller.name caller))
happens_again (on_revision c act p n) a allowed is caller text asked =
    some_same _ _ (subst (λ b. IsAskedBy b allowed) is asked) ∙ ap (λ who. on_revision who act p n) (sym (some_same c allowed.caller.name caller))
happens_again (on_profile c act p) a allowed is caller text asked =
    some_same _ _ (subst (λ b. IsAskedBy b allowed) is asked) ∙ ap (λ who. on_profile who act p) (sym (some_same c allowed.caller.name caller))

-- ---- an event that is allowed is allowed as what it asks

-- what is asked by the event of a verdict on this has the same rules, and the same is done
abbrev IsSame : History → Option UserRow → Ask → Verdict → Type 0
IsSame h caller b (accepted r None) = Unit {0}
IsSame h caller b (accepted r (Some e)) = (a : Ask) → IsAskOf e a → (rules_of h caller a ≡ rules_of h caller b) × (done_of h caller a ≡ done_of h caller b)
IsSame h caller b (denied d fault) = Unit {0}

module _ (h : History) (caller : Option UserRow) where
  same_submission : (p : ProfileName) (document : Vec ℕ Global) (reading : Result Profile DocFault) → reading_of document.items ≡ reading
      → IsSame h caller (ask.Submit p document) (new_revision h caller p reading)
  same_submission p document (Err f) reads = tt
  same_submission p document (Ok profile) reads = λ a is.
      let again : reading_of is.0.items ≡ reading_of document.items = ap reading_of is.1 ∙ read_again document.items profile reads ∙ sym reads in (
        ap (rules_of h caller) is.2 ∙ ap (λ r. behind_caller (is_none caller) (submit_rules (submit_facts caller p.team r (last_revision h p) (revision_count h p)))) again,
        ap (done_of h caller) is.2 ∙ ap (new_revision h caller p) again,
      )

  same_done : (b : Ask) → IsSame h caller b (done_of h caller b)
  same_done (ask.Enrol user team roles digest) = λ a is. (ap (rules_of h caller) is, ap (done_of h caller) is)
  same_done (ask.Submit p document) = same_submission p document (reading_of document.items) refl
  same_done (ask.Vote p n digest approve) = λ a is. (ap (rules_of h caller) is, ap (done_of h caller) is)
  same_done (ask.ActOnRevision act p n) =
      done_to_by (IsSame h caller (ask.ActOnRevision act p n)) (revision_of h p n) act (on_revision (name_of caller) act p n) tt
      (λ told. λ a is. (ap (rules_of h caller) is, ap (done_of h caller) is))
  same_done (ask.SeeRevision view p n) = of_revision_by (IsSame h caller (ask.SeeRevision view p n)) (revision_of h p n) (λ r. accepted (seen_of h p view r) None) tt (λ r. tt)
  same_done (ask.List team) = tt
  same_done (ask.ActOnProfile act p) = λ a is. (ap (rules_of h caller) is, ap (done_of h caller) is)
  same_done (ask.SeeProfile view p) = of_revision_by (IsSame h caller (ask.SeeProfile view p)) (issued_revision h p) (λ r. accepted (given_of view r) None) tt (λ r. tt)
  same_done ask.Me = of_user_by (IsSame h caller ask.Me) caller (λ u. accepted (reply.Me u.name u.team u.roles) None) tt (λ u. tt)
  same_done (ask.Revisions p before) = tt

pub allowed_again : (h : History) (e : Event) (is : IsAllowed h e) (a : Ask) → IsAskOf e a → verdict_for e a h ≡ accepted is.reply (Some e)
allowed_again h e is a asks =
    let caller : Option UserRow = Some is.caller in
    let out = carried_out_of h caller is.ask is.reply (Some e) is.allowed in
    let same = subst (IsSame h caller is.ask) out.done (same_done h caller is.ask) a asks in
    ap (λ u. verdict_of h u a) (ap (option_and_then (user_of h)) (allowed_by h e is) ∙ is.enrolled)
    ∙ allowed_is h caller a (ap first_denial same.0 ∙ out.none_refuses) ∙ same.1 ∙ out.done

-- ---- why it isn't allowed

accepted_event : (r s : Reply) (e f : Event) → accepted r (Some e) ≡ accepted s (Some f) → e ≡ f
accepted_event r s e f is = cc

never_denied : (h : History) (e : Event) (d : Denial) → IsDeniedBy e h d → IsAllowed h e → ⊥
never_denied h e d denies is =
    let clash : accepted is.reply (Some e) ≡ denied d denies.fault = sym (allowed_again h e is denies.ask denies.asks) ∙ denies.verdict in
    cc

never_founded : (h : History) (e : Event) → caller_of e ≡ None → IsAllowed h e → ⊥
never_founded h e none is =
    let clash : None ≡ Some is.caller.name = sym none ∙ allowed_by h e is in
    cc

never_other : (h : History) (e : Event) → HasOtherText e h → IsAllowed h e → ⊥
never_other h e other is =
    other.other
    (submitted_text other.caller other.caller other.name other.name other.text (text_of other.profile)
    (sym other.is ∙ accepted_event is.reply other.reply e (submitted other.caller other.name (text_of other.profile)) (sym (allowed_again h e is other.ask other.asks) ∙ other.verdict)))

-- a submission with another text
other_text : (h : History) (e : Event) (a : Ask) (allowed : Allowed) → IsAskOf e a → caller_of e ≡ Some allowed.caller.name → has_text e allowed.change ≡ false → IsAskedBy a allowed
    → verdict_for e a h ≡ accepted allowed.reply (Some (event_for allowed)) → HasOtherText e h
other_text h (submitted c p text) a allowed is caller other asked verdict =
    let handed = subst (λ b. IsAskedBy b allowed) is.2 asked in
    let happened = some_same _ _ handed.happened in
    let differs : bytes_eq text (text_of handed.read) ≡ false = sym (added_text allowed.caller.name allowed.caller.name p (text_of handed.read) text allowed.change happened) ∙ other in
    record {
      ask = a;
      asks = is;
      caller = c;
      name = p;
      text = text;
      is = refl;
      profile = handed.read;
      reads = sym (ap reading_of is.1) ∙ handed.reads;
      other = λ same. let clash : true ≡ false = sym (bytes_same text (text_of handed.read) same) ∙ differs in cc;
      reply = allowed.reply;
      verdict = verdict ∙ ap (λ f. accepted allowed.reply (Some f)) happened
          ∙ ap (λ who. accepted allowed.reply (Some (submitted who p (text_of handed.read)))) (sym (some_same c allowed.caller.name caller));
    }
other_text h (founded n t d l) a allowed is caller other asked verdict = absurd is
other_text h (enrolled c n t r d) a allowed is caller other asked verdict = absurd cc
other_text h (voted c p n d approves) a allowed is caller other asked verdict = absurd cc
other_text h (on_revision c act p n) a allowed is caller other asked verdict = absurd cc
other_text h (on_profile c act p) a allowed is caller other asked verdict = absurd cc

-- ---- what that leaves

module _ {S : Type 0} (g : Ghosts S) (old mid : Held S) (e : Event) (a : Ask) (asks : IsAskOf e a) (name : List ℕ) (called : caller_of e ≡ Some name) where
  -- the verdict is that of the user of that name
  told_for : (h : History) (v : Verdict) → verdict_of h (user_of h name) a ≡ v → verdict_for e a h ≡ v
  told_for h v is = ap (λ n. verdict_of h (option_and_then (user_of h) n) a) called ∙ is

  -- it was refused, or there was a fault
  pub refused_again : (refusal : Refusal) → JudgesNamed (state g old) (state g mid) (Err refusal) name a → IsSettled (state g mid) → IsReplayed (meaning_over g) old mid e (Err (unreplayed_of refusal))
  refused_again (refusals.Denied d fault) judged settled =
      let leaves = left_all g old mid (Err (refusals.Denied d fault)) (λ h. verdict_of h (user_of h name) a) judged in
      let denies : (h : History) → IsOffice h (state g old) → HasCleanDisk (state g mid) → IsDeniedBy e h d = λ h office clean. record {
        ask = a;
        asks = asks;
        fault = fault;
        verdict = told_for h (denied d fault) (judged.told h office.lawful (office.tables (judged.clean clean)) clean);
      } in
      record {
        leaves = leaves;
        why = denies;
        never = λ h office clean. never_denied h e d (denies h office clean);
        stands = λ h office clean is_open.
            let of = leaves.office h office in
            let still = judged.stays clean is_open in
            record { is_of = of; is_open = still; leaves = settled (tables_of h) (of.tables clean still) };
      }
  refused_again (refusals.Fault fault) judged settled =
      let leaves = left_all g old mid (Err (refusals.Fault fault)) (λ h. verdict_of h (user_of h name) a) judged in
      record {
        survives = leaves.survives;
        cause = λ h office clean.
            let shows = office.tables (judged.clean clean) in
            caused_by g old mid (λ f. IsAllowed h e × (meaning_over g).refuses old h e f) fault (judged.told h office.lawful shows clean) (λ is. inl (leaves.kept clean, leaves.crash clean))
            (inl (judged.cause h office.lawful shows clean));
        office = leaves.office;
        kept = leaves.kept;
        crash = λ h office clean left may. inl (leaves.crash clean left may);
      }

  module _ (forms : HasForms a) (allowed : Allowed) (judged : JudgesNamed (state g old) (state g mid) (Ok (judgements.Allowed allowed)) name a) (asked : IsAskedBy a allowed) where
    left_mid : LeavesAll (meaning_over g) old mid
    left_mid = left_all g old mid (Ok (judgements.Allowed allowed)) (λ h. verdict_of h (user_of h name) a) judged

    module _ (h : History) (office : IsOffice h (state g old)) (clean : HasCleanDisk (state g mid)) where
      -- the user of that name is the caller
      enrolled_as : user_of h name ≡ Some allowed.caller
      enrolled_as = (judged.told h office.lawful (office.tables (judged.clean clean)) clean).caller

      named_as : allowed.caller.name ≡ name
      named_as = user_named h name allowed.caller enrolled_as

      known_as : user_of h allowed.caller.name ≡ Some allowed.caller
      known_as = ap (user_of h) named_as ∙ enrolled_as

      called_as : caller_of e ≡ Some allowed.caller.name
      called_as = called ∙ ap Some (sym named_as)

      accepted_as : verdict_of h (user_of h name) a ≡ accepted allowed.reply (Some (event_for allowed))
      accepted_as = (judged.told h office.lawful (office.tables (judged.clean clean)) clean).verdict

      next_as : IsNext h allowed.caller.name allowed.change
      next_as = (judged.told h office.lawful (office.tables (judged.clean clean)) clean).next

    -- its text is another
    pub other_again : has_text e allowed.change ≡ false → IsSettled (state g mid) → IsReplayed (meaning_over g) old mid e (Err causes.OtherText)
    other_again text settled =
        let other : (h : History) → IsOffice h (state g old) → HasCleanDisk (state g mid) → HasOtherText e h = λ h office clean.
        other_text h e a allowed asks (called_as h office clean) text asked (told_for h (accepted allowed.reply (Some (event_for allowed))) (accepted_as h office clean)) in
        record {
          leaves = left_mid;
          why = other;
          never = λ h office clean. never_other h e (other h office clean);
          stands = λ h office clean is_open.
              let of = left_mid.office h office in
              let still = judged.stays clean is_open in
              record { is_of = of; is_open = still; leaves = settled (tables_of h) (of.tables clean still) };
        }

    module _ (text : has_text e allowed.change ≡ true) (was_open : HasCleanDisk (state g mid) → IsTrue (state g old).is_open) where
      event_again : (h : History) → IsOffice h (state g old) → HasCleanDisk (state g mid) → event_for allowed ≡ e
      event_again h office clean = happens_again e a allowed asks (called_as h office clean) text asked

      verdict_again : (h : History) → IsOffice h (state g old) → HasCleanDisk (state g mid) → verdict_of h (user_of h name) a ≡ accepted allowed.reply (Some e)
      verdict_again h office clean = accepted_as h office clean ∙ ap (λ f. accepted allowed.reply (Some f)) (event_again h office clean)

      -- and it is allowed
      lawful_again : (h : History) → IsOffice h (state g old) → HasCleanDisk (state g mid) → IsAllowed h e
      lawful_again h office clean =
          let verdict : verdict_of h (Some allowed.caller) a ≡ accepted allowed.reply (Some e) = ap (λ u. verdict_of h u a) (sym (enrolled_as h office clean)) ∙ verdict_again h office clean in
          record {
            caller = allowed.caller;
            enrolled = known_as h office clean;
            ask = a;
            forms = forms;
            number = asks_numbered h office.lawful (Some allowed.caller) e a asks (carried_out_of h (Some allowed.caller) a allowed.reply (Some e) verdict).none_refuses;
            reply = allowed.reply;
            allowed = verdict;
          }

      granted_again : (h : History) → IsOffice h (state g old) → HasCleanDisk (state g mid) → IsGranted h allowed (verdict_of h (user_of h name) a)
      granted_again h office clean = record {
        known = known_as h office clean;
        verdict = accepted_as h office clean;
        next = next_as h office clean;
        lawful = subst (IsAllowed h) (sym (event_again h office clean)) (lawful_again h office clean);
      }

      module _ (new : Held S) where
        crash_again : (result : Result ⊤ Fault) → Asks g (write_of allowed) mid new result → LeavesWith (meaning_over g) old new e
        crash_again result asked = λ h office clean left may.
            let before = asked.written.leaves.clean clean in
            elim (written_crash g old mid new allowed (λ h. verdict_of h (user_of h name) a) left_mid granted_again result asked h office clean left may) [
              | inl earlier ↦ inl earlier
              | inr with ↦ inr (lawful_again h office before, subst (λ v. AreWithEvent (meaning_over g) h v left) (verdict_again h office before) with)
            ]

        pub done_again : Asks g (write_of allowed) mid new (Ok tt) → IsReplayed (meaning_over g) old new e (Ok tt)
        done_again asked = record {
          survives = written_survives g old mid new allowed (λ h. verdict_of h (user_of h name) a) left_mid granted_again (Ok tt) asked;
          allowed = λ h office clean. lawful_again h office (asked.written.leaves.clean clean);
          stands = λ h office clean.
              let before = asked.written.leaves.clean clean in
              let verdict = verdict_again h office before in
              let lawful = lawful_with h e office.lawful (lawful_again h office before) in
              subst (λ v. Stands (meaning_over g) (with_event (event_of v) h) new) verdict
              (written_stands g old mid new allowed (λ h. verdict_of h (user_of h name) a) left_mid granted_again asked h office clean
              (subst (λ v. IsLawfulHistory (with_event (event_of v) h)) (sym verdict) lawful));
          crash = crash_again (Ok tt) asked;
        }

        pub failed_again : (fault : Fault) → Asks g (write_of allowed) mid new (Err fault) → IsReplayed (meaning_over g) old new e (Err (causes.Fault fault))
        failed_again fault asked = record {
          survives = written_survives g old mid new allowed (λ h. verdict_of h (user_of h name) a) left_mid granted_again (Err fault) asked;
          cause = λ h office clean.
              let before = asked.written.leaves.clean clean in
              let still = judged.stays before (was_open before) in
              caused_by g old new (λ f. IsAllowed h e × (meaning_over g).refuses old h e f) fault
              (λ same. written_formed g old mid new allowed (λ h. verdict_of h (user_of h name) a) left_mid granted_again (Err fault) asked h office clean (ap Err same))
              (λ same. inr (
                lawful_again h office before,
                subst (λ v. RefusesEvent (meaning_over g) old h v (faults.NoMemory witness)) (verdict_again h office before)
                    (unwritten_memory g old mid new allowed (λ h. verdict_of h (user_of h name) a) left_mid granted_again fault asked h office clean still same),
              ))
              (elim (unwritten_cause g old mid new allowed (λ h. verdict_of h (user_of h name) a) left_mid granted_again fault asked h office clean still) [
                | inl met ↦ inl met
                | inr refused ↦ inr (lawful_again h office before, subst (λ v. RefusesEvent (meaning_over g) old h v fault) (verdict_again h office before) refused)
              ]);
          office = unwritten_office g old mid new allowed (λ h. verdict_of h (user_of h name) a) left_mid granted_again fault asked;
          kept = unwritten_kept g old mid new allowed (λ h. verdict_of h (user_of h name) a) left_mid granted_again fault asked;
          crash = crash_again (Err fault) asked;
        }

-- what it came to, by another name
module _ {S : Type 0} (g : Ghosts S) (old mid : Held S) (name : List ℕ) (a : Ask) (j : Judgement) (allowed : Allowed) (is : j ≡ judgements.Allowed allowed) where
  pub judged_same : JudgesNamed (state g old) (state g mid) (Ok j) name a → JudgesNamed (state g old) (state g mid) (Ok (judgements.Allowed allowed)) name a
  judged_same judged = subst (λ x. JudgesNamed (state g old) (state g mid) (Ok x) name a) is judged

  pub asked_same : IsAskedIfAllowed a (Ok j) → IsAskedBy a allowed
  asked_same asked = subst (λ x. IsAskedIfAllowed a (Ok x)) is asked

-- ---- before anything is asked of the store

module _ {S : Type 0} (g : Ghosts S) (x : Held S) (settled : IsSettled (state g x)) (e : Event) where
  -- nothing was done
  pub undone_at_once : (why : Unreplayed) → HasNoAsk e why → IsReplayed (meaning_over g) x x e (Err why)
  undone_at_once (causes.Denied d) none = absurd none
  undone_at_once causes.Founding none = record {
    leaves = left_itself (meaning_over g) x;
    why = λ h office clean. none;
    never = λ h office clean. never_founded h e none;
    stands = λ h office clean is_open. record { is_of = office; is_open = is_open; leaves = settled (tables_of h) (office.tables clean is_open) };
  }
  undone_at_once causes.OtherText none = absurd none
  undone_at_once (causes.Fault fault) none =
      subst (λ f. IsReplayed (meaning_over g) x x e (Err (causes.Fault f))) (sym none) (record {
        survives = survives_none (meaning_over g) x;
        cause = λ h office clean. inl ((meaning_over g).keeps_itself x, λ left may. may);
        office = λ h office. office;
        kept = λ clean. (meaning_over g).keeps_itself x;
        crash = λ h office clean left may. inl may;
      })

-- a `?` that leaves with this
pub left_with : {S : Type 0} (g : Ghosts S) (old new : Held S) (e : Event) (result : Result ⊤ Unreplayed) (why : Unreplayed) → IsErrAnd result (λ r. r ≡ why)
    → IsReplayed (meaning_over g) old new e (Err why) → IsReplayed (meaning_over g) old new e result
left_with g old new e (Ok done) why is replayed = absurd is
left_with g old new e (Err r) why is replayed = subst (λ y. IsReplayed (meaning_over g) old new e (Err y)) (sym is) replayed

-- what survives of it, whatever came of it
pub replayed_survives : {S : Type 0} (g : Ghosts S) (old new : Held S) (e : Event) (result : Result ⊤ Unreplayed) → IsReplayed (meaning_over g) old new e result → Survives (meaning_over g) old new
replayed_survives g old new e (Ok done) replayed = replayed.survives
replayed_survives g old new e (Err (causes.Denied d)) replayed = replayed.leaves.survives
replayed_survives g old new e (Err causes.Founding) replayed = replayed.leaves.survives
replayed_survives g old new e (Err causes.OtherText) replayed = replayed.leaves.survives
replayed_survives g old new e (Err (causes.Fault fault)) replayed = replayed.survives
