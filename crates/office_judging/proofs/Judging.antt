-- From reads to what judging a request comes to.
use Rattle.std.proofs.Common.{arith, ◌≤◌, ◌≡◌, ◌∙◌, Bool, true, false, Option, Result, Ok, Err, IsTrue, IsErrAnd, List, ℕ, refl, sym, ap, subst}
use Rattle.sqlite.specs.State.{State}
use Rattle.sqlite.proofs.StateLemmas.{survives_then}
use Rattle.review_policy.specs.declared.denial.Denial.{Denial}
use Rattle.office_words.specs.declared.fault.Fault.{Fault}
use Rattle.office_words.specs.declared.fault.Fault.TheVariants.{NoMemory, NotAnOffice}
use Rattle.office_words.specs.Tables.{Tables}
use Rattle.office_rows.specs.Causes.{HasFailed}
use Rattle.office_rows.proofs.Sure.{met_between}
use Rattle.office_store.specs.Shown.{IsIdle}
use Rattle.office_store.specs.Calls.{IsRead}
use Rattle.office_store.proofs.Calls.{never_unformed}
use Rattle.office_store.proofs.Committed.{survives_same}
use Rattle.office_policy.specs.History.{History}
use Rattle.office_policy.specs.Verdict.{Verdict, denied}
use Rattle.office_policy.specs.Lawful.{IsLawfulHistory}
use Rattle.office_policy.specs.TablesOf.{tables_of}
use Rattle.office_judging.specs.declared.refusal.Refusal.{Refusal}
use Rattle.office_judging.specs.declared.refusal.Refusal.TheVariants as refusals
use Rattle.office_judging.specs.Judged.{HasCause, Judges, Tells}
use Rattle.no_memory.specs.Witness.{witness}

pub never_both : {P : Type 0} (b : Bool) → IsTrue b → b ≡ false → P
never_both true is_open shut = absurd cc
never_both false is_open shut = absurd cc

never_memory : {P : Type 0} (f : Fault) → f ≡ NoMemory witness → f ≡ NotAnOffice → P
never_memory f memory same = absurd (let k : (NoMemory witness) ≡ NotAnOffice = sym memory ∙ same in cc)

of_memory : (old new : State) (f : Fault) → f ≡ NoMemory witness → HasFailed old new f
of_memory old new f memory = subst (HasFailed old new) (sym memory) tt

-- a `?` that leaves with this refusal
pub left : {A : Type 0} {Found : History → A → Type 0} (judge : History → Verdict) (old new : State) (result : Result A Refusal) (refusal : Refusal)
    → IsErrAnd result (λ r. r ≡ refusal) → Judges old new (Err refusal) judge Found → Judges old new result judge Found
left judge old new (Ok a) refusal is judged = absurd is
left {Found = Found} judge old new (Err r) refusal is judged = subst (λ e. Judges old new (Err e) judge Found) (sym is) judged

-- the same of a read
pub read_left : {A : Type 0} (old new : State) (F : Tables → A → Type 0) (result : Result A Fault) (f : Fault) → IsErrAnd result (λ e. e ≡ f)
    → IsRead {A = A} old new (Err f) F → IsRead old new result F
read_left old new F (Ok a) f is read = absurd is
read_left old new F (Err e) f is read = subst (λ x. IsRead old new (Err x) F) (sym is) read

-- ---- one read after another

-- what was found says as much in other words
pub read_as : {A B : Type 0} (old new : State) (F : Tables → A → Type 0) (H : Tables → B → Type 0) (a : A) (b : B) → ((t : Tables) → F t a → H t b)
    → IsRead old new (Ok a) F → IsRead old new (Ok b) H
read_as old new F H a b again read = record {
  leaves = record {
    idle = read.leaves.idle;
    clean = read.leaves.clean;
    survives = read.leaves.survives;
    answered = read.leaves.answered;
    shut = λ clean shut. ((read.leaves.shut clean shut).0, λ same. cc);
    settled = read.leaves.settled;
  };
  found = λ t shows clean. again t (read.found t shows clean);
  cause = λ t shows clean. tt;
  shown = read.shown;
  same = read.same;
  crash = read.crash;
}

-- what failed, whatever was to be found
pub read_fails_as : {A B : Type 0} (old new : State) (F : Tables → A → Type 0) (H : Tables → B → Type 0) (f : Fault) → IsRead {A = A} old new (Err f) F → IsRead {A = B} old new (Err f) H
read_fails_as old new F H f read = record {
  leaves = record {
    idle = read.leaves.idle;
    clean = read.leaves.clean;
    survives = read.leaves.survives;
    answered = λ clean. tt;
    shut = λ clean shut. ((read.leaves.shut clean shut).0, λ same. (read.leaves.shut clean shut).1 (let k : f ≡ NotAnOffice = cc in ap Err k));
    settled = read.leaves.settled;
  };
  found = λ t shows clean. tt;
  cause = read.cause;
  shown = read.shown;
  same = read.same;
  crash = read.crash;
}

-- a fault of memory after a read
pub read_in_vain : {A B : Type 0} (old new : State) (F : Tables → A → Type 0) (H : Tables → B → Type 0) (a : A) (f : Fault) → f ≡ NoMemory witness → IsRead old new (Ok a) F → IsRead {A = B} old new (Err f) H
read_in_vain old new F H a f memory read = record {
  leaves = record {
    idle = read.leaves.idle;
    clean = read.leaves.clean;
    survives = read.leaves.survives;
    answered = λ clean. tt;
    shut = λ clean shut. ((read.leaves.shut clean shut).0, λ same. never_memory f memory cc);
    settled = read.leaves.settled;
  };
  found = λ t shows clean. tt;
  cause = λ t shows clean. of_memory old new f memory;
  shown = read.shown;
  same = read.same;
  crash = read.crash;
}

module _ {A B : Type 0} (old mid new : State) (F : Tables → A → Type 0) (G : Tables → B → Type 0) (a : A) (first : IsRead old mid (Ok a) F) where
  -- what both found
  pub read_both : {C : Type 0} (H : Tables → C → Type 0) (b : B) (c : C) → ((t : Tables) → F t a → G t b → H t c) → IsRead mid new (Ok b) G → IsRead old new (Ok c) H
  read_both H b c both second = record {
    leaves = record {
      idle = second.leaves.idle;
      clean = λ clean. first.leaves.clean (second.leaves.clean clean);
      survives = survives_then old mid new _ _ (λ _. Unit {0}) (λ _ trees left. tt) (λ _ trees left. tt) first.leaves.survives second.leaves.survives;
      answered = λ clean. ((first.leaves.answered (second.leaves.clean clean)).0, (second.leaves.answered clean).1);
      shut = λ clean shut. never_both old.is_open (first.leaves.answered (second.leaves.clean clean)).0 shut;
      settled = second.leaves.settled;
    };
    found = λ t shows clean.
        let before = second.leaves.clean clean in
        both t (first.found t shows before) (second.found t (first.shown t shows before) clean);
    cause = λ t shows clean. tt;
    shown = λ t shows clean. second.shown t (first.shown t shows (second.leaves.clean clean)) clean;
    same = λ settled clean is_open.
        let before = second.leaves.clean clean in
        let kept = first.same settled before (first.leaves.answered before).1 in
        let mid_settled : mid.now ≡ mid.committed = kept.0 ∙ settled ∙ sym kept.1 in
        let last = second.same mid_settled clean is_open in
        (last.0 ∙ kept.0, last.1 ∙ kept.1);
    crash = λ clean trees may. first.crash (second.leaves.clean clean) trees (second.crash clean trees may);
  }

  -- the second failed
  pub second_fails : {C : Type 0} (H : Tables → C → Type 0) (f : Fault) → IsRead {A = B} mid new (Err f) G → IsRead {A = C} old new (Err f) H
  second_fails H f second = record {
    leaves = record {
      idle = second.leaves.idle;
      clean = λ clean. first.leaves.clean (second.leaves.clean clean);
      survives = survives_then old mid new _ _ (λ _. Unit {0}) (λ _ trees left. tt) (λ _ trees left. tt) first.leaves.survives second.leaves.survives;
      answered = λ clean. tt;
      shut = λ clean shut. never_both old.is_open (first.leaves.answered (second.leaves.clean clean)).0 shut;
      settled = second.leaves.settled;
    };
    found = λ t shows clean. tt;
    cause = λ t shows clean.
        let before = second.leaves.clean clean in
        met_between old mid new new f first.leaves.survives.counts (omega arith) (λ shut. never_both mid.is_open (first.leaves.answered before).1 shut)
        (second.cause t (first.shown t shows before) clean);
    shown = λ t shows clean. second.shown t (first.shown t shows (second.leaves.clean clean)) clean;
    same = λ settled clean is_open.
        let before = second.leaves.clean clean in
        let kept = first.same settled before (first.leaves.answered before).1 in
        let mid_settled : mid.now ≡ mid.committed = kept.0 ∙ settled ∙ sym kept.1 in
        let last = second.same mid_settled clean is_open in
        (last.0 ∙ kept.0, last.1 ∙ kept.1);
    crash = λ clean trees may. first.crash (second.leaves.clean clean) trees (second.crash clean trees may);
  }

-- ---- a request that is judged

module _ {A : Type 0} {Found : History → A → Type 0} (judge : History → Verdict) where
  -- it is refused before anything is read
  pub refused_at_once : (s : State) (d : Denial) (fault : Option (List ℕ)) → IsIdle s → ((h : History) → IsLawfulHistory h → judge h ≡ denied d fault)
      → Judges {A = A} s s (Err (refusals.Denied d fault)) judge Found
  refused_at_once s d fault idle is = record {
    idle = idle;
    clean = λ clean. clean;
    survives = survives_same s _;
    settled = λ settled. settled;
    stays = λ clean is_open. is_open;
    shut = λ clean shut. shut;
    told = λ h lawful shows clean. is h lawful;
    cause = λ h lawful shows clean. tt;
    shown = λ t shows clean. shows;
    same = λ settled clean is_open. (refl, refl);
    crash = λ clean trees may. may;
  }

  -- nothing is done for no memory
  pub failed_at_once : (s : State) (f : Fault) → IsIdle s → f ≡ NoMemory witness → Judges {A = A} s s (Err (refusals.Fault f)) judge Found
  failed_at_once s f idle memory = record {
    idle = idle;
    clean = λ clean. clean;
    survives = survives_same s _;
    settled = λ settled. settled;
    stays = λ clean is_open. tt;
    shut = λ clean shut. shut;
    told = λ h lawful shows clean. never_memory f memory;
    cause = λ h lawful shows clean. of_memory s s f memory;
    shown = λ t shows clean. shows;
    same = λ settled clean is_open. (refl, refl);
    crash = λ clean trees may. may;
  }

  module _ {B : Type 0} (old new : State) (F : Tables → B → Type 0) where
    -- a read failed
    pub read_fails : (f : Fault) → IsRead {A = B} old new (Err f) F → Judges {A = A} old new (Err (refusals.Fault f)) judge Found
    read_fails f read = record {
      idle = read.leaves.idle;
      clean = read.leaves.clean;
      survives = read.leaves.survives;
      settled = λ settled. read.leaves.settled;
      stays = λ clean is_open. tt;
      shut = λ clean shut. (read.leaves.shut clean shut).0;
      told = λ h lawful shows clean is. never_unformed {A = B} old new (Err f) (read.cause (tables_of h) shows clean) (ap Err is);
      cause = λ h lawful shows clean. read.cause (tables_of h) shows clean;
      shown = read.shown;
      same = read.same;
      crash = read.crash;
    }

    module _ (b : B) (read : IsRead old new (Ok b) F) where
      -- memory was wanted after it
      pub fails_after : (f : Fault) → f ≡ NoMemory witness → Judges {A = A} old new (Err (refusals.Fault f)) judge Found
      fails_after f memory = record {
        idle = read.leaves.idle;
        clean = read.leaves.clean;
        survives = read.leaves.survives;
        settled = λ settled. read.leaves.settled;
        stays = λ clean is_open. tt;
        shut = λ clean shut. (read.leaves.shut clean shut).0;
        told = λ h lawful shows clean. never_memory f memory;
        cause = λ h lawful shows clean. of_memory old new f memory;
        shown = read.shown;
        same = read.same;
        crash = read.crash;
      }

      -- what it found is refused
      pub refused_after : (d : Denial) (fault : Option (List ℕ)) → ((h : History) → IsLawfulHistory h → F (tables_of h) b → judge h ≡ denied d fault)
          → Judges {A = A} old new (Err (refusals.Denied d fault)) judge Found
      refused_after d fault is = record {
        idle = read.leaves.idle;
        clean = read.leaves.clean;
        survives = read.leaves.survives;
        settled = λ settled. read.leaves.settled;
        stays = λ clean is_open. (read.leaves.answered clean).1;
        shut = λ clean shut. (read.leaves.shut clean shut).0;
        told = λ h lawful shows clean. is h lawful (read.found (tables_of h) shows clean);
        cause = λ h lawful shows clean. tt;
        shown = read.shown;
        same = read.same;
        crash = read.crash;
      }

      -- it comes to what was found
      pub found_after : (a : A) → ((h : History) → IsLawfulHistory h → F (tables_of h) b → Found h a) → Judges old new (Ok a) judge Found
      found_after a is = record {
        idle = read.leaves.idle;
        clean = read.leaves.clean;
        survives = read.leaves.survives;
        settled = λ settled. read.leaves.settled;
        stays = λ clean is_open. (read.leaves.answered clean).1;
        shut = λ clean shut. (read.leaves.shut clean shut).0;
        told = λ h lawful shows clean. is h lawful (read.found (tables_of h) shows clean);
        cause = λ h lawful shows clean. tt;
        shown = read.shown;
        same = read.same;
        crash = read.crash;
      }

-- ---- a read before the rest of a request

tells_as : {A : Type 0} (Then Found : A → Type 0) (v w : Verdict) (result : Result A Refusal) → v ≡ w → ((a : A) → Then a → Found a) → Tells Then v result → Tells Found w result
tells_as Then Found v w (Ok a) is more tells = more a tells
tells_as Then Found v w (Err (refusals.Denied d fault)) is more tells = sym is ∙ tells
tells_as Then Found v w (Err (refusals.Fault f)) is more tells = tells

cause_from : {A : Type 0} (result : Result A Refusal) (old mid new : State) → old.faults ≤ mid.faults → IsTrue mid.is_open → HasCause mid new result → HasCause old new result
cause_from (Ok a) old mid new before is_open cause = tt
cause_from (Err (refusals.Denied d fault)) old mid new before is_open cause = tt
cause_from (Err (refusals.Fault f)) old mid new before is_open cause = met_between old mid new new f before (omega arith) (never_both mid.is_open is_open) cause

-- what was found tells the verdict, and more of what it comes to
pub then_judges : {A B : Type 0} {Then Found : History → A → Type 0} (judge first : History → Verdict) (old mid new : State) (F : Tables → B → Type 0) (b : B) (read : IsRead old mid (Ok b) F)
    (result : Result A Refusal) → ((h : History) → IsLawfulHistory h → F (tables_of h) b → first h ≡ judge h)
    → ((h : History) → IsLawfulHistory h → F (tables_of h) b → (a : A) → Then h a → Found h a)
    → Judges mid new result first Then → Judges old new result judge Found
then_judges {Then = Then} {Found = Found} judge first old mid new F b read result is more rest = record {
  idle = rest.idle;
  clean = λ clean. read.leaves.clean (rest.clean clean);
  survives = survives_then old mid new _ _ (λ _. Unit {0}) (λ _ trees left. tt) (λ _ trees left. tt) read.leaves.survives rest.survives;
  settled = λ settled. rest.settled read.leaves.settled;
  stays = λ clean is_open. rest.stays clean (read.leaves.answered (rest.clean clean)).1;
  shut = λ clean shut. never_both old.is_open (read.leaves.answered (rest.clean clean)).0 shut;
  told = λ h lawful shows clean.
      let before = rest.clean clean in
      let found = read.found (tables_of h) shows before in
      tells_as (Then h) (Found h) (first h) (judge h) result (is h lawful found) (more h lawful found) (rest.told h lawful (read.shown (tables_of h) shows before) clean);
  cause = λ h lawful shows clean.
      let before = rest.clean clean in
      cause_from result old mid new read.leaves.survives.counts (read.leaves.answered before).1 (rest.cause h lawful (read.shown (tables_of h) shows before) clean);
  shown = λ t shows clean. rest.shown t (read.shown t shows (rest.clean clean)) clean;
  same = λ settled clean is_open.
      let before = rest.clean clean in
      let kept = read.same settled before (read.leaves.answered before).1 in
      let mid_settled : mid.now ≡ mid.committed = kept.0 ∙ settled ∙ sym kept.1 in
      let last = rest.same mid_settled clean is_open in
      (last.0 ∙ kept.0, last.1 ∙ kept.1);
  crash = λ clean trees may. read.crash (rest.clean clean) trees (rest.crash clean trees may);
}

-- ---- a read after the rest of a request

open_before : (b c : Bool) → (IsTrue b → IsTrue c) → c ≡ false → b ≡ false
open_before true c stays shut = never_both c (stays refl) shut
open_before false c stays shut = refl

open_between : (b c : Bool) → (b ≡ false → c ≡ false) → IsTrue c → IsTrue b
open_between true c shut is_open = refl
open_between false c shut is_open = never_both c is_open (shut refl)

module _ {A B C : Type 0} {Then : History → A → Type 0} {Found : History → C → Type 0} (judge : History → Verdict) (old mid new : State) (a : A) (first : Judges old mid (Ok a) judge Then) (F : Tables → B → Type 0) where
  -- it comes to what both found
  pub found_further : (b : B) (c : C) → ((h : History) → IsLawfulHistory h → Then h a → F (tables_of h) b → Found h c) → IsRead mid new (Ok b) F → Judges old new (Ok c) judge Found
  found_further b c is second = record {
    idle = second.leaves.idle;
    clean = λ clean. first.clean (second.leaves.clean clean);
    survives = survives_then old mid new _ _ (λ _. Unit {0}) (λ _ trees left. tt) (λ _ trees left. tt) first.survives second.leaves.survives;
    settled = λ settled. second.leaves.settled;
    stays = λ clean is_open. (second.leaves.answered clean).1;
    shut = λ clean shut. (second.leaves.shut clean (first.shut (second.leaves.clean clean) shut)).0;
    told = λ h lawful shows clean.
        let before = second.leaves.clean clean in
        is h lawful (first.told h lawful shows before) (second.found (tables_of h) (first.shown (tables_of h) shows before) clean);
    cause = λ h lawful shows clean. tt;
    shown = λ t shows clean. second.shown t (first.shown t shows (second.leaves.clean clean)) clean;
    same = λ settled clean is_open.
        let kept = first.same settled (second.leaves.clean clean) (second.leaves.answered clean).0 in
        let mid_settled : mid.now ≡ mid.committed = kept.0 ∙ settled ∙ sym kept.1 in
        let last = second.same mid_settled clean is_open in
        (last.0 ∙ kept.0, last.1 ∙ kept.1);
    crash = λ clean trees may. first.crash (second.leaves.clean clean) trees (second.crash clean trees may);
  }

  -- the second failed
  pub fails_further : (f : Fault) → IsRead {A = B} mid new (Err f) F → Judges {A = C} old new (Err (refusals.Fault f)) judge Found
  fails_further f second = record {
    idle = second.leaves.idle;
    clean = λ clean. first.clean (second.leaves.clean clean);
    survives = survives_then old mid new _ _ (λ _. Unit {0}) (λ _ trees left. tt) (λ _ trees left. tt) first.survives second.leaves.survives;
    settled = λ settled. second.leaves.settled;
    stays = λ clean is_open. tt;
    shut = λ clean shut. (second.leaves.shut clean (first.shut (second.leaves.clean clean) shut)).0;
    told = λ h lawful shows clean is. never_unformed {A = B} mid new (Err f) (second.cause (tables_of h) (first.shown (tables_of h) shows (second.leaves.clean clean)) clean) (ap Err is);
    cause = λ h lawful shows clean.
        let before = second.leaves.clean clean in
        met_between old mid new new f first.survives.counts (omega arith) (open_before old.is_open mid.is_open (first.stays before))
        (second.cause (tables_of h) (first.shown (tables_of h) shows before) clean);
    shown = λ t shows clean. second.shown t (first.shown t shows (second.leaves.clean clean)) clean;
    same = λ settled clean is_open.
        let before = second.leaves.clean clean in
        let kept = first.same settled before (open_between mid.is_open new.is_open (λ shut. (second.leaves.shut clean shut).0) is_open) in
        let mid_settled : mid.now ≡ mid.committed = kept.0 ∙ settled ∙ sym kept.1 in
        let last = second.same mid_settled clean is_open in
        (last.0 ∙ kept.0, last.1 ∙ kept.1);
    crash = λ clean trees may. first.crash (second.leaves.clean clean) trees (second.crash clean trees may);
  }

-- ---- in other words

-- what its kind came to is what it comes to
pub judged_as : {A B : Type 0} {Then : History → A → Type 0} {Last : History → B → Type 0} (judge : History → Verdict) (old new : State) (a : A) (b : B)
    → ((h : History) → Then h a → Last h b) → Judges old new (Ok a) judge Then → Judges old new (Ok b) judge Last
judged_as judge old new a b again judged = record {
  idle = judged.idle;
  clean = judged.clean;
  survives = judged.survives;
  settled = judged.settled;
  stays = judged.stays;
  shut = judged.shut;
  told = λ h lawful shows clean. again h (judged.told h lawful shows clean);
  cause = λ h lawful shows clean. tt;
  shown = judged.shown;
  same = judged.same;
  crash = judged.crash;
}

-- and a refusal is one
pub refused_as : {A B : Type 0} {Then : History → A → Type 0} {Last : History → B → Type 0} (judge : History → Verdict) (old new : State) (refusal : Refusal)
    → Judges {A = A} old new (Err refusal) judge Then → Judges {A = B} old new (Err refusal) judge Last
refused_as judge old new (refusals.Denied d fault) judged = record {
  idle = judged.idle;
  clean = judged.clean;
  survives = judged.survives;
  settled = judged.settled;
  stays = judged.stays;
  shut = judged.shut;
  told = judged.told;
  cause = judged.cause;
  shown = judged.shown;
  same = judged.same;
  crash = judged.crash;
}
refused_as judge old new (refusals.Fault fault) judged = record {
  idle = judged.idle;
  clean = judged.clean;
  survives = judged.survives;
  settled = judged.settled;
  stays = judged.stays;
  shut = judged.shut;
  told = judged.told;
  cause = judged.cause;
  shown = judged.shown;
  same = judged.same;
  crash = judged.crash;
}

-- what wanted memory fails, whatever it came to
pub failed_as : {A B : Type 0} {Then : History → A → Type 0} {Last : History → B → Type 0} (judge : History → Verdict) (old new : State) (a : A) (f : Fault) → f ≡ NoMemory witness
    → Judges old new (Ok a) judge Then → Judges {A = B} old new (Err (refusals.Fault f)) judge Last
failed_as judge old new a f memory judged = record {
  idle = judged.idle;
  clean = judged.clean;
  survives = judged.survives;
  settled = judged.settled;
  stays = λ clean is_open. tt;
  shut = judged.shut;
  told = λ h lawful shows clean. never_memory f memory;
  cause = λ h lawful shows clean. of_memory old new f memory;
  shown = judged.shown;
  same = judged.same;
  crash = judged.crash;
}
