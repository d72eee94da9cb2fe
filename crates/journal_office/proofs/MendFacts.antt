-- What becomes of a journal that a crash left, by what the tables show of it.
use Rattle.std.proofs.Common.{◌≡◌, ◌≢◌, ◌∙◌, ◌⊎◌, ℕ, ◌≤◌, List, [], ◌∷◌, ◌++◌, Bool, true, false, Option, Some, None, Result, Ok, Err, IfErr, IsTrue, length, refl, sym, ap, subst, arith, inl, inr, length-append}
use Rattle.std.specs.Prelude.{OnOk, IsErrAnd}
use Rattle.std.proofs.lemmas.Bool.{cases_Bool, false≢true}
use Rattle.std.proofs.lemmas.List.{length-map}
use Rattle.sqlite_disk.specs.declared.Disk.{Ghosts}
use Rattle.sealed_log.specs.Disks.{LeavesTail}
use Rattle.sealed_log.specs.Faults.{IsLater, IsMetBetween, IsOfCall, is_full}
use Rattle.sealed_log.specs.Log.{bodies_of}
use Rattle.sealed_log.specs.Reading.{IsThrough}
use Rattle.sealed_log.specs.Sealed.{longest, sealed_text}
use Rattle.sealed_log.specs.Told.{HasMore, HasTail, told}
use Rattle.sealed_log.specs.declared.log.SealedLog.{SealedLog}
use Rattle.sealed_log.specs.declared.through.Through.{Through}
use Rattle.sealed_log.proofs.FaultFacts.{failed_later}
use Rattle.sealed_log.proofs.LogFacts.{all_told}
use Rattle.sealed_log.proofs.ToldFacts.{told_text}
use Rattle.sealed_log.specs.declared.fault.LogFault.{LogFault}
use Rattle.sealed_log.specs.declared.fault.LogFault.TheVariants as logs
use Rattle.sealed_log.specs.declared.unreadable.Unreadable.{Unreadable}
use Rattle.sealed_log.specs.declared.unreadable.Unreadable.TheVariants as unreadable
use Rattle.office_policy.specs.History.{Event, History}
use Rattle.office_policy.specs.Judging.{LeavesAll}
use Rattle.office_policy.specs.Lawful.{IsAllowed, IsLawfulHistory}
use Rattle.office_policy.specs.Meaning.{Meaning}
use Rattle.office_policy.specs.Runs.{with_event as with_was}
use Rattle.office_policy.specs.ShowsEvent.{Shows}
use Rattle.office_policy.specs.TablesOf.{tables_of}
use Rattle.office_policy.proofs.ShownFacts.{last_shown, shown_unchanged}
use Rattle.office_policy.proofs.SurvivalFacts.{left_itself}
use Rattle.journal.specs.Journal.{EndsWithEvent, Says, history_in}
use Rattle.journal.specs.Kept.{IsFaulty, IsKept, SaysNone, Settled, with_stood}
use Rattle.journal.specs.Lines.{Line, happened, strike, text_of}
use Rattle.journal.specs.Writers.{ShowsWriters, Writers, writers_of}
use Rattle.journal.proofs.JournalFacts.{says_one}
use Rattle.journal.proofs.KeptFacts.{ends_with, held_more, says_all, settled_one}
use Rattle.journal.proofs.Lengths.{allowed_entry}
use Rattle.journal.proofs.Texts.{one_more, one_struck}
use Rattle.journal.proofs.WriterFacts.{writers_shown}
use Rattle.journal_office.specs.declared.mending.Last.{Last}
use Rattle.journal_office.specs.declared.mending.Last.TheVariants as last
use Rattle.journal_faults.specs.declared.not_reopened.NotReopened.{NotReopened}
use Rattle.journal_faults.specs.declared.not_reopened.NotReopened.TheVariants.{Unsealed, NotALine, Changed, OtherJournal, Office, Log, NoMemory}
use Rattle.journal_faults.specs.Faults.{line_fault, log_fault}
use Rattle.journal_office.specs.Faults.{HasFileCause, IsOutside, IsRefusal}
use Rattle.journal_office.specs.Mending.{Asks, HasOfficeCause, HasTablesOf, IsAnswer, IsLastOf, IsMended, IsOneMore, IsStruckOut, Mends, SaysNow, SaysOther, TellsOf}
use Rattle.no_memory.specs.Witness.{witness}

-- ---- what the tables tell of it

pub lawful_more : (h : History) (e : Event) → IsLawfulHistory h → IsAllowed h e → IsLawfulHistory (e ∷ h)
lawful_more [] e lawful allowed = absurd lawful
lawful_more (f ∷ before) e lawful allowed = (allowed, lawful)

-- bodies with one event more say it
more_says : (h : History) (bodies : List (List ℕ)) (e : Event) → IsOneMore h bodies e → Says bodies (e ∷ h)
more_says h bodies e more =
    subst (λ (b : List (List ℕ)). Says b (e ∷ h)) (sym more.is) (one_more more.before h e (allowed_entry h e more.allowed more.forms) more.says)

-- and don't where it is struck out
struck_says : (h : History) (bodies new : List (List ℕ)) (e : Event) → IsOneMore h bodies e → new ≡ bodies ++ text_of strike ∷ [] → Says new h
struck_says h bodies new e more is =
    subst (λ (b : List (List ℕ)). Says b h) (sym (is ∙ ap (λ b. b ++ text_of strike ∷ []) more.is))
    (one_struck more.before h e (allowed_entry h e more.allowed more.forms) more.says)

-- they hold it back
more_held : (h : History) (bodies : List (List ℕ)) (e : Event) → IsOneMore h bodies e → Settled bodies h (Some e)
more_held h bodies e more =
    subst (λ (b : List (List ℕ)). Settled b h (Some e)) (sym more.is) (held_more more.before h e (allowed_entry h e more.allowed more.forms) more.says)

itself : (h : History) → HasTablesOf h h
itself h = record { grown = inl refl; tables = refl }

-- the event that is held back is the last writer
held_of : (event : Option Event) (h : History) → with_stood event (writers_of h) ≡ writers_of (with_was event h)
held_of None h = refl
held_of (Some e) h = refl

same_some : (a b : Event) → ◌≡◌ {A = Option Event} (Some a) (Some b) → a ≡ b
same_some a b same = cc

-- bodies with one more event hold that back
one_held : (h settled : History) (bodies : List (List ℕ)) (event : Option Event) (e : Event) → Settled bodies settled event → IsOneMore h bodies e → (settled ≡ h) × (event ≡ Some e)
one_held h settled bodies event e says more =
    let same = settled_one bodies settled h event (Some e) says (more_held h bodies e more) in
    (ap (λ (p : History × Option Event). p.0) same, ap (λ (p : History × Option Event). p.1) same)

-- what a crash may leave a file telling isn't another's
pub left_ours : (mark : ℕ) (h : History) (bodies : List (List ℕ)) → IsLawfulHistory h → TellsOf h bodies → mark ≤ length bodies → SaysOther mark h bodies → ⊥
left_ours mark h bodies lawful tells enough (inl ahead) = omega (arith, enough, ahead)
left_ours mark h bodies lawful (inl says) enough (inr other) =
    let same : with_was other.held other.settled ≡ h = says_one bodies _ h (says_all bodies other.settled other.held other.says) says in
    other.with_it (subst (ShowsWriters (tables_of h)) (sym (held_of other.held other.settled ∙ ap writers_of same)) (writers_shown h lawful))
left_ours mark h bodies lawful (inr one) enough (inr other) =
    let same = (one_held h other.settled bodies other.held one.0 other.says one.1).0 in
    other.without (subst (λ k. ShowsWriters (tables_of h) (writers_of k)) (sym same) (writers_shown h lawful))

module _ {X : Type 0} (m : Meaning X) (old new : X) (h : History) (of : m.is_of h old) (clean : m.is_clean new) (settled : History) (bodies : List (List ℕ)) where
  -- bodies stay whose last event is shown, or that hold none back
  says_stays : (w after : Writers) (event : Option Event) (answer : Last) → Settled bodies settled event → IsLastOf m old new w after event answer → TellsOf h bodies → answer ≢ last.Unshown → SaysNow h bodies
  says_stays w after event answer says found (inl kept) other = record { now = h; tables = itself h; says = kept }
  says_stays w after (Some e) last.Shown says found (inr one) other =
      let same : e ≡ one.0 = same_some e one.0 (one_held h settled bodies (Some e) one.0 says one.1).1 in
      let shows : Shows (tables_of h) one.0 = subst (Shows (tables_of h)) same (found.0 h of clean) in
      record {
        now = one.0 ∷ h;
        tables = record { grown = inr (one.0, refl, one.1.allowed); tables = shown_unchanged h one.0 (lawful_more h one.0 (m.lawful h old of) one.1.allowed) shows };
        says = more_says h bodies one.0 one.1;
      }
  says_stays w after (Some e) last.Unshown says found (inr one) other = absurd (other refl)
  says_stays w after (Some e) last.Settled says found (inr one) other = absurd found
  says_stays w after None last.Shown says found (inr one) other = absurd found
  says_stays w after None last.Unshown says found (inr one) other = absurd found
  says_stays w after None last.Settled says found (inr one) other = absurd (let both = (one_held h settled bodies None one.0 says one.1).1 in cc)

  -- one that isn't shown is one more
  more_unshown : (w after : Writers) (event : Option Event) → Settled bodies settled event → IsLastOf m old new w after event last.Unshown → TellsOf h bodies → (e : Event) × IsOneMore h bodies e
  more_unshown w after None says found tells = absurd found
  more_unshown w after (Some e) says found (inl kept) =
      let same : e ∷ settled ≡ h = says_one bodies (e ∷ settled) h (says_all bodies settled (Some e) says) kept in
      absurd (found.0 h of clean (subst (λ k. Shows (tables_of k) e) same (last_shown settled e (subst IsLawfulHistory (sym same) (m.lawful h old of)))))
  more_unshown w after (Some e) says found (inr one) = one

-- the tables show the writers of the bodies, or these with the event that is held back
shows_one : {X : Type 0} (m : Meaning X) (old new : X) (w after : Writers) (event : Option Event) (answer : Last) → IsLastOf m old new w after event answer → (after ≡ w) ⊎ (after ≡ with_stood event w)
shows_one m old new w after (Some e) last.Shown found = inr found.1
shows_one m old new w after (Some e) last.Unshown found = inl found.1
shows_one m old new w after (Some e) last.Settled found = absurd found
shows_one m old new w after None last.Shown found = absurd found
shows_one m old new w after None last.Unshown found = absurd found
shows_one m old new w after None last.Settled found = inl found

-- an event that is shown ends them
shown_ends : {X : Type 0} (m : Meaning X) (old new : X) (bodies : List (List ℕ)) (settled : History) (w after : Writers) (event : Option Event) → Settled bodies settled event
    → IsLastOf m old new w after event last.Shown → EndsWithEvent bodies
shown_ends m old new bodies settled w after (Some e) says found = ends_with bodies settled e says
shown_ends m old new bodies settled w after None says found = absurd found

-- ---- faults

outside_no_refusal : {A : Type 0} (why : NotReopened) → IsOutside why → IsRefusal why → A
outside_no_refusal Unsealed outside is = absurd outside
outside_no_refusal NotALine outside is = absurd outside
outside_no_refusal (Changed at) outside is = absurd outside
outside_no_refusal OtherJournal outside is = absurd outside
outside_no_refusal (Office fault) outside is = absurd outside
outside_no_refusal Log outside is = absurd is
outside_no_refusal (NoMemory _) outside is = absurd is

refused_by : {A : Type 0} (why other : NotReopened) → IsOutside why → IsRefusal other → why ≡ other → A
refused_by why other outside is same = outside_no_refusal why outside (subst IsRefusal (sym same) is)

pub log_outside : (fault : LogFault) → IsOutside (log_fault fault)
log_outside (logs.NoMemory _) = tt
log_outside logs.Disk = tt
log_outside logs.Full = tt

outside_cause : {X : Type 0} (m : Meaning X) (old new : X) (why : NotReopened) → IsOutside why → HasOfficeCause m old new why
outside_cause m old new Unsealed outside = tt
outside_cause m old new NotALine outside = tt
outside_cause m old new (Changed at) outside = tt
outside_cause m old new OtherJournal outside = tt
outside_cause m old new (Office fault) outside = absurd outside
outside_cause m old new Log outside = tt
outside_cause m old new (NoMemory _) outside = tt

module _ {D : Type 0} (g : Ghosts D) where
  called : (old new : D) (met : LogFault) (why : NotReopened) → log_fault met ≡ why → IsOfCall g old new met → HasFileCause g old new why
  called old new met Unsealed is call = tt
  called old new met NotALine is call = tt
  called old new met (Changed at) is call = tt
  called old new met OtherJournal is call = tt
  called old new met (Office fault) is call = tt
  called old new met Log is call = inr (record { met = met; call = call; is = is })
  called old new met (NoMemory _) is call = tt

  pub by_met : (old new : D) (met : LogFault) → IsMetBetween g old new met → HasFileCause g old new (log_fault met)
  by_met old new met (inl memory) = subst (λ fault. HasFileCause g old new (log_fault fault)) (sym memory) tt
  by_met old new met (inr call) = called old new met (log_fault met) refl call

  by_shut : (old new : D) (why : NotReopened) → g.is_usable old ≡ false → HasFileCause g old new why
  by_shut old new Unsealed shut = tt
  by_shut old new NotALine shut = tt
  by_shut old new (Changed at) shut = tt
  by_shut old new OtherJournal shut = tt
  by_shut old new (Office fault) shut = tt
  by_shut old new Log shut = inl shut
  by_shut old new (NoMemory _) shut = tt

  -- a call of the file failed, or there was no memory, or a sync had failed
  pub by_file : (old new : D) (met : LogFault) → (IsTrue (g.is_usable old) → IsMetBetween g old new met) → HasFileCause g old new (log_fault met)
  by_file old new met word = elim (cases_Bool (g.is_usable old)) [
    | inl usable ↦ by_met old new met (word usable)
    | inr shut ↦ by_shut old new (log_fault met) shut
  ]

  cause_later : (old mid new : D) (why : NotReopened) → IsLater g old mid → (g.is_usable mid ≡ false → g.is_usable old ≡ false) → HasFileCause g mid new why → HasFileCause g old new why
  cause_later old mid new Unsealed counts shut cause = tt
  cause_later old mid new NotALine counts shut cause = tt
  cause_later old mid new (Changed at) counts shut cause = tt
  cause_later old mid new OtherJournal counts shut cause = tt
  cause_later old mid new (Office fault) counts shut cause = tt
  cause_later old mid new Log counts shut (inl unusable) = inl (shut unusable)
  cause_later old mid new Log counts shut (inr fails) =
      inr (record { met = fails.met; call = failed_later g old mid new (is_full fails.met) counts fails.call; is = fails.is })
  cause_later old mid new (NoMemory _) counts shut cause = tt

  -- behind other calls
  pub file_cause_later : {A : Type 0} (old mid new : D) (result : Result A NotReopened) → IsLater g old mid → (g.is_usable mid ≡ false → g.is_usable old ≡ false)
      → IfErr result (HasFileCause g mid new) → IfErr result (HasFileCause g old new)
  file_cause_later old mid new (Ok done) counts shut cause = tt
  file_cause_later old mid new (Err why) counts shut cause = cause_later old mid new why counts shut cause

-- a `?` that leaves with this fault
pub left_with : {A : Type 0} (P : Result A NotReopened → Type 0) (r : Result A NotReopened) (why : NotReopened) → IsErrAnd r (λ e. e ≡ why) → P (Err why) → P r
left_with P (Ok a) why is p = absurd is
left_with P (Err e) why is p = subst (λ w. P (Err w)) (sym is) p

-- what was cut where its sealed lines end tells the same
pub same_bodies : {D : Type 0} (g : Ghosts D) (old new : SealedLog D g) → g.seen new.disk ≡ sealed_text (bodies_of g old) → bodies_of g new ≡ bodies_of g old
same_bodies g old new has = ap told has ∙ told_text (bodies_of g old) (all_told (g.seen old.disk))

-- what a crash may leave tells something
told_some : (h : History) (bodies : List (List ℕ)) → IsLawfulHistory h → TellsOf h bodies → bodies ≡ [] → ⊥
told_some h bodies lawful (inl says) none =
    let size : length says.lines ≡ 0 = sym (length-map says.lines text_of) ∙ sym (ap length says.are) ∙ ap length none in
    at says.lines says.history size
  where
    at : (lines : List Line) → history_in lines ≡ Some h → length lines ≡ 0 → ⊥
    at [] is size = let empty : [] ≡ h = cc in subst IsLawfulHistory (sym empty) lawful
    at (l ∷ lines) is size = omega (arith, size)
told_some h bodies lawful (inr one) none = omega (arith, ap length (sym none ∙ one.1.is), length-append one.1.before (text_of (happened one.0) ∷ []))

-- and a history
told_history : (h : History) (bodies : List (List ℕ)) → TellsOf h bodies → SaysNone bodies → ⊥
told_history h bodies (inl says) none = none h says
told_history h bodies (inr one) none = none (one.0 ∷ h) (more_says h bodies one.0 one.1)

-- ---- the file

empty : (bodies : List (List ℕ)) → length bodies ≡ 0 → bodies ≡ []
empty [] none = refl
empty (b ∷ bodies) none = absurd (omega (arith, none))

module _ {X D : Type 0} (m : Meaning X) (g : Ghosts D) (mark : ℕ) where
  -- the file was read, and no more done
  pub record IsSeen (before after : SealedLog D g) : Type 0 where
    pub seen : g.seen after.disk ≡ g.seen before.disk
    pub usable : g.is_usable after.disk ≡ g.is_usable before.disk
    pub counts : IsLater g before.disk after.disk
    pub clean : IsTrue (g.is_clean after.disk) → IsTrue (g.is_clean before.disk)
    pub crash : (left : List ℕ) → g.may_leave after.disk left → g.may_leave before.disk left

  module _ (x : X) (before after : SealedLog D g) (read : IsSeen before after) where
    -- it can't be read
    pub not_read : (why : NotReopened) → IsOutside why → (IsTrue (g.is_clean after.disk) → HasFileCause g before.disk after.disk why) → Mends m g mark x x before after (Err why)
    not_read why outside word = record {
      leaves = left_itself m x;
      stands = λ h stands clean. tt;
      clean = read.clean;
      opened = tt;
      bodies = λ clean. tt;
      journal = λ clean h of tells is_clean. tt;
      ends = λ clean. tt;
      marked = λ clean. tt;
      unsealed = λ clean same. refused_by why Unsealed outside tt same;
      changed = λ clean at same. refused_by why (Changed at) outside tt same;
      whole = λ clean. tt;
      no_line = λ clean same. refused_by why NotALine outside tt same;
      line = λ clean h lawful tells. (λ same. refused_by why NotALine outside tt same, λ same. refused_by why Unsealed outside tt same);
      other = λ clean h of is_clean same. refused_by why OtherJournal outside tt same;
      ours = λ clean h of is_clean. tt;
      untouched = λ refusal. read.seen;
      cause = λ h of clean. outside_cause m x x why outside;
      word = word;
      crash = λ clean leaves left may. leaves left (read.crash left may);
    }

    no_history : (IsTrue (g.is_clean after.disk) → SaysNone (bodies_of g before)) → Mends m g mark x x before after (Err NotALine)
    no_history none = record {
      leaves = left_itself m x;
      stands = λ h stands clean. tt;
      clean = read.clean;
      opened = tt;
      bodies = λ clean. tt;
      journal = λ clean h of tells is_clean. tt;
      ends = λ clean. tt;
      marked = λ clean. tt;
      unsealed = λ clean same. absurd cc;
      changed = λ clean at same. absurd cc;
      whole = λ clean. tt;
      no_line = λ clean same. none clean;
      line = λ clean h lawful tells. (λ same. told_history h (bodies_of g before) tells (none clean), λ same. cc);
      other = λ clean h of is_clean same. absurd cc;
      ours = λ clean h of is_clean. tt;
      untouched = λ refusal. read.seen;
      cause = λ h of clean. tt;
      word = λ clean. tt;
      crash = λ clean leaves left may. leaves left (read.crash left may);
    }

    -- a line of it can't stand where it does
    pub no_journal : (fault : Unreadable) → (IsTrue (g.is_clean after.disk) → IsFaulty (bodies_of g before) fault) → Mends m g mark x x before after (Err (line_fault fault))
    no_journal unreadable.NotALine none = no_history none
    no_journal unreadable.NoEventBefore none = no_history none
    no_journal unreadable.Unsealed none = no_history (λ clean. absurd (none clean))
    no_journal unreadable.TornLine none = no_history (λ clean. absurd (none clean))
    no_journal unreadable.Read none = not_read Log tt (λ clean. absurd (none clean))
    no_journal (unreadable.NoMemory _) none = not_read (NoMemory witness) tt (λ clean. tt)

    module _ (found : Through) (through : IsTrue (g.is_clean after.disk) → IsThrough (g.seen before.disk) found) where
      none_told : found.lines ≡ 0 → IsTrue (g.is_clean after.disk) → bodies_of g before ≡ []
      none_told none clean = empty (bodies_of g before) (sym (through clean).lines ∙ none)

      -- none of its lines is sealed
      pub no_seal_there : found.lines ≡ 0 → Mends m g mark x x before after (Err Unsealed)
      no_seal_there none = record {
        leaves = left_itself m x;
        stands = λ h stands clean. tt;
        clean = read.clean;
        opened = tt;
        bodies = λ clean. tt;
        journal = λ clean h of tells is_clean. tt;
        ends = λ clean. tt;
        marked = λ clean. tt;
        unsealed = λ clean same. none_told none clean;
        changed = λ clean at same. absurd cc;
        whole = λ clean. tt;
        no_line = λ clean same. absurd cc;
        line = λ clean h lawful tells. (λ same. cc, λ same. told_some h (bodies_of g before) lawful tells (none_told none clean));
        other = λ clean h of is_clean same. absurd cc;
        ours = λ clean h of is_clean. tt;
        untouched = λ refusal. read.seen;
        cause = λ h of clean. tt;
        word = λ clean. tt;
        crash = λ clean leaves left may. leaves left (read.crash left may);
      }

  -- a file that was read first
  pub seen_on : (old new : X) (before mid after : SealedLog D g) (result : Result Bool NotReopened) → IsSeen before mid → Mends m g mark old new mid after result
      → Mends m g mark old new before after result
  seen_on old new before mid after result read mends =
      let same : bodies_of g mid ≡ bodies_of g before = ap told read.seen in
      record {
        leaves = mends.leaves;
        stands = mends.stands;
        clean = λ clean. read.clean (mends.clean clean);
        opened = mends.opened;
        bodies = λ clean. subst (λ (b : List (List ℕ)). OnOk result (IsMended b (bodies_of g after))) same (mends.bodies clean);
        journal = λ clean h of tells is_clean. mends.journal clean h of (subst (TellsOf h) (sym same) tells) is_clean;
        ends = mends.ends;
        marked = λ clean. subst (λ (b : List (List ℕ)). OnOk result (mark ≤ length b)) same (mends.marked clean);
        unsealed = λ clean. subst (λ (b : List (List ℕ)). IfErr result (λ why. why ≡ Unsealed → b ≡ [])) same (mends.unsealed clean);
        changed = λ clean.
            subst (λ (f : List ℕ). IfErr result (λ why. (at : ℕ) → why ≡ Changed at → HasMore f × (at ≡ length (sealed_text (told f))))) read.seen (mends.changed clean);
        whole = λ clean. subst (λ (f : List ℕ). OnOk result (HasMore f → ⊥)) read.seen (mends.whole clean);
        no_line = λ clean. subst (λ (b : List (List ℕ)). IfErr result (λ why. why ≡ NotALine → SaysNone b)) same (mends.no_line clean);
        line = λ clean h lawful tells. mends.line clean h lawful (subst (TellsOf h) (sym same) tells);
        other = λ clean h of is_clean. subst (λ (b : List (List ℕ)). IfErr result (λ why. why ≡ OtherJournal → SaysOther mark h b)) same (mends.other clean h of is_clean);
        ours = λ clean h of is_clean. subst (λ (b : List (List ℕ)). OnOk result (SaysOther mark h b → ⊥)) same (mends.ours clean h of is_clean);
        untouched = subst (λ (f : List ℕ). IfErr result (λ why. IsRefusal why → g.seen after.disk ≡ f)) read.seen mends.untouched;
        cause = mends.cause;
        word = λ clean. file_cause_later g before.disk mid.disk after.disk result read.counts (λ shut. sym read.usable ∙ shut) (mends.word clean);
        crash = λ clean leaves.
            subst (λ (b : List (List ℕ)). LeavesTail g after.disk (sealed_text b) longest) same
            (mends.crash clean λ left may. subst (λ (b : List (List ℕ)). HasTail (sealed_text b) longest left) (sym same) (leaves left (read.crash left may)));
      }

  -- ---- the office is asked

  module _ (old new : X) (before : SealedLog D g) (w : Writers) (event : Option Event) (leaves : LeavesAll m old new)
      (keeps : IsTrue (g.is_clean before.disk) → IsKept (bodies_of g before) w event) where
    -- the journal is one, with a sealed line
    asked_line : (why : NotReopened) → Asks m old new w event (Err why) → (why ≢ NotALine) × (why ≢ Unsealed)
    asked_line Unsealed asks = absurd asks
    asked_line NotALine asks = absurd asks
    asked_line (Changed at) asks = absurd asks
    asked_line OtherJournal asks = (λ same. cc, λ same. cc)
    asked_line (Office fault) asks = (λ same. cc, λ same. cc)
    asked_line Log asks = absurd asks
    asked_line (NoMemory _) asks = (λ same. cc, λ same. cc)

    asked_cause : (why : NotReopened) → Asks m old new w event (Err why) → (h : History) → m.is_of h old → m.is_clean new → HasOfficeCause m old new why
    asked_cause Unsealed asks h of clean = tt
    asked_cause NotALine asks h of clean = tt
    asked_cause (Changed at) asks h of clean = tt
    asked_cause OtherJournal asks h of clean = tt
    asked_cause (Office fault) asks h of clean = asks h of clean
    asked_cause Log asks h of clean = tt
    asked_cause (NoMemory _) asks h of clean = tt

    -- another office's journal
    asked_other : (why : NotReopened) → Asks m old new w event (Err why) → IsTrue (g.is_clean before.disk) → (h : History) → m.is_of h old → m.is_clean new → why ≡ OtherJournal
        → SaysOther mark h (bodies_of g before)
    asked_other Unsealed asks clean h of is_clean same = absurd asks
    asked_other NotALine asks clean h of is_clean same = absurd asks
    asked_other (Changed at) asks clean h of is_clean same = absurd asks
    asked_other OtherJournal asks clean h of is_clean same =
        let kept = keeps clean in
        inr (record {
          settled = kept.settled;
          held = event;
          says = kept.says;
          without = λ all. asks.0 h of is_clean (subst (ShowsWriters (tables_of h)) (sym kept.writers_are) all);
          with_it = λ all. asks.1 h of is_clean (subst (λ k. ShowsWriters (tables_of h) (with_stood event k)) (sym kept.writers_are) all);
        })
    asked_other (Office fault) asks clean h of is_clean same = absurd cc
    asked_other Log asks clean h of is_clean same = absurd asks
    asked_other (NoMemory _) asks clean h of is_clean same = absurd cc

    never_changed : (why : NotReopened) (at : ℕ) → Asks m old new w event (Err why) → why ≡ Changed at → ⊥
    never_changed Unsealed at asks same = asks
    never_changed NotALine at asks same = asks
    never_changed (Changed there) at asks same = asks
    never_changed OtherJournal at asks same = cc
    never_changed (Office fault) at asks same = cc
    never_changed Log at asks same = asks
    never_changed (NoMemory _) at asks same = cc

    asked_word : (why : NotReopened) → Asks m old new w event (Err why) → HasFileCause g before.disk before.disk why
    asked_word Unsealed asks = tt
    asked_word NotALine asks = tt
    asked_word (Changed at) asks = tt
    asked_word OtherJournal asks = tt
    asked_word (Office fault) asks = tt
    asked_word Log asks = absurd asks
    asked_word (NoMemory _) asks = tt

    pub not_asked : (why : NotReopened) → Asks m old new w event (Err why) → Mends m g mark old new before before (Err why)
    not_asked why asks = record {
      leaves = leaves;
      stands = λ h stands clean. tt;
      clean = λ clean. clean;
      opened = tt;
      bodies = λ clean. tt;
      journal = λ clean h of tells is_clean. tt;
      ends = λ clean. tt;
      marked = λ clean. tt;
      unsealed = λ clean same. absurd ((asked_line why asks).1 same);
      changed = λ clean at same. absurd (never_changed why at asks same);
      whole = λ clean. tt;
      no_line = λ clean same. absurd ((asked_line why asks).0 same);
      line = λ clean h lawful tells. asked_line why asks;
      other = λ clean h of is_clean. asked_other why asks clean h of is_clean;
      ours = λ clean h of is_clean. tt;
      untouched = λ refusal. refl;
      cause = λ h of clean. asked_cause why asks h of clean;
      word = λ clean. asked_word why asks;
      crash = λ clean leaves. leaves;
    }

    -- ---- what stands behind is cut off

    -- what opening the log did to it
    module _ (mid : SealedLog D g) (cut_counts : IsLater g before.disk mid.disk) (cut_clean : IsTrue (g.is_clean mid.disk) → IsTrue (g.is_clean before.disk))
        (cut_crash : IsTrue (g.is_clean mid.disk) → LeavesTail g before.disk (sealed_text (bodies_of g before)) longest
        → LeavesTail g mid.disk (sealed_text (bodies_of g before)) longest) where
      pub not_cut : (why : NotReopened) → IsOutside why → HasFileCause g before.disk mid.disk why → Mends m g mark old new before mid (Err why)
      not_cut why outside word = record {
        leaves = leaves;
        stands = λ h stands clean. tt;
        clean = cut_clean;
        opened = tt;
        bodies = λ clean. tt;
        journal = λ clean h of tells is_clean. tt;
        ends = λ clean. tt;
        marked = λ clean. tt;
        unsealed = λ clean same. refused_by why Unsealed outside tt same;
        changed = λ clean at same. refused_by why (Changed at) outside tt same;
        whole = λ clean. tt;
        no_line = λ clean same. refused_by why NotALine outside tt same;
        line = λ clean h lawful tells. (λ same. refused_by why NotALine outside tt same, λ same. refused_by why Unsealed outside tt same);
        other = λ clean h of is_clean same. refused_by why OtherJournal outside tt same;
        ours = λ clean h of is_clean. tt;
        untouched = λ refusal. outside_no_refusal why outside refusal;
        cause = λ h of clean. outside_cause m old new why outside;
        word = λ clean. word;
        crash = cut_crash;
      }

      module _ (is_open : mid.is_open ≡ true) (same : IsTrue (g.is_clean mid.disk) → bodies_of g mid ≡ bodies_of g before)
          (no_more_there : IsTrue (g.is_clean mid.disk) → HasMore (g.seen before.disk) → ⊥) (enough : IsTrue (g.is_clean before.disk) → mark ≤ length (bodies_of g before)) (answer : Last)
          (asks : IsAnswer m old new w event answer) where
        kept : IsTrue (g.is_clean mid.disk) → IsKept (bodies_of g before) w event
        kept clean = keeps (cut_clean clean)

        never_other : IsTrue (g.is_clean mid.disk) → (h : History) → m.is_of h old → m.is_clean new → SaysOther mark h (bodies_of g before) → ⊥
        never_other clean h of is_clean (inl ahead) = let all = enough (cut_clean clean) in omega (arith, all, ahead)
        never_other clean h of is_clean (inr other) =
            let same = settled_one (bodies_of g before) (kept clean).settled other.settled event other.held (kept clean).says other.says in
            let writers : w ≡ writers_of other.settled = (kept clean).writers_are ∙ ap (λ (p : History × Option Event). writers_of p.0) same in
            let held : event ≡ other.held = ap (λ (p : History × Option Event). p.1) same in
            elim (shows_one m old new w asks.after event answer asks.last) [
              | inl is ↦ other.without (subst (ShowsWriters (tables_of h)) (is ∙ writers) (asks.shows h of is_clean))
              | inr is ↦ other.with_it (subst (ShowsWriters (tables_of h)) (is ∙ ap (with_stood event) writers ∙ ap (λ e. with_stood e (writers_of other.settled)) held) (asks.shows h of is_clean))
            ]

        was_journal : (clean : IsTrue (g.is_clean mid.disk)) → Says (bodies_of g before) (with_was event (kept clean).settled)
        was_journal clean = says_all (bodies_of g before) (kept clean).settled event (kept clean).says

        pub stays : answer ≢ last.Unshown → (settled_is : Bool) → (settled_is ≡ false → answer ≡ last.Shown) → Mends m g mark old new before mid (Ok settled_is)
        stays is settled_is shown = record {
          leaves = leaves;
          stands = asks.stays;
          clean = cut_clean;
          opened = is_open;
          bodies = λ clean. record { was = with_was event (kept clean).settled; says = was_journal clean; is = inl (same clean) };
          journal = λ clean h of tells is_clean.
              subst (SaysNow h) (sym (same clean))
              (says_stays m old new h of is_clean (kept clean).settled (bodies_of g before) w asks.after event answer (kept clean).says asks.last tells is);
          ends = λ clean unsettled.
              subst EndsWithEvent (sym (same clean))
              (shown_ends m old new (bodies_of g before) (kept clean).settled w asks.after event (kept clean).says (subst (IsLastOf m old new w asks.after event) (shown unsettled) asks.last));
          marked = λ clean. enough (cut_clean clean);
          unsealed = λ clean. tt;
          changed = λ clean. tt;
          whole = no_more_there;
          no_line = λ clean. tt;
          line = λ clean h lawful tells. tt;
          other = λ clean h of is_clean. tt;
          ours = never_other;
          untouched = tt;
          cause = λ h of clean. tt;
          word = λ clean. tt;
          crash = cut_crash;
        }

        pub stays_shown : answer ≡ last.Shown → Mends m g mark old new before mid (Ok false)
        stays_shown is =
            stays (λ same. let both : last.Shown ≡ last.Unshown = sym is ∙ same in cc) false (λ _. is)

        pub stays_settled : answer ≡ last.Settled → Mends m g mark old new before mid (Ok true)
        stays_settled is = stays (λ same. let both : last.Settled ≡ last.Unshown = sym is ∙ same in cc) true (λ unsettled. absurd (let c : true ≡ false = unsettled in cc))

        -- and the last line is struck out
        module _ (after : SealedLog D g) (is : answer ≡ last.Unshown) where
          found_unshown : IsLastOf m old new w asks.after event last.Unshown
          found_unshown = subst (IsLastOf m old new w asks.after event) is asks.last

          module _ (struck : IsStruckOut g mid after (Ok tt)) where
            more : IsTrue (g.is_clean after.disk) → (h : History) → m.is_of h old → TellsOf h (bodies_of g before) → m.is_clean new → (e : Event) × IsOneMore h (bodies_of g before) e
            more clean h of tells is_clean =
                more_unshown m old new h of is_clean (kept (struck.clean clean)).settled (bodies_of g before) w asks.after event (kept (struck.clean clean)).says found_unshown tells

            both : IsTrue (g.is_clean after.disk) → bodies_of g after ≡ bodies_of g before ++ text_of strike ∷ []
            both clean = struck.bodies clean ∙ ap (λ b. b ++ text_of strike ∷ []) (same (struck.clean clean))

            pub struck_out : Mends m g mark old new before after (Ok true)
            struck_out = record {
              leaves = leaves;
              stands = asks.stays;
              clean = λ clean. cut_clean (struck.clean clean);
              opened = struck.opened;
              bodies = λ clean. record { was = with_was event (kept (struck.clean clean)).settled; says = was_journal (struck.clean clean); is = inr (both clean) };
              journal = λ clean h of tells is_clean.
                  let e = more clean h of tells is_clean in
                  record { now = h; tables = itself h; says = struck_says h (bodies_of g before) (bodies_of g after) e.0 e.1 (both clean) };
              ends = λ clean unsettled. absurd (let c : true ≡ false = unsettled in cc);
              marked = λ clean. enough (cut_clean (struck.clean clean));
              unsealed = λ clean. tt;
              changed = λ clean. tt;
              whole = λ clean. no_more_there (struck.clean clean);
              no_line = λ clean. tt;
              line = λ clean h lawful tells. tt;
              other = λ clean h of is_clean. tt;
              ours = λ clean h of is_clean. never_other (struck.clean clean) h of is_clean;
              untouched = tt;
              cause = λ h of clean. tt;
              word = λ clean. tt;
              crash = λ clean leaves.
                  subst (λ (b : List (List ℕ)). LeavesTail g after.disk (sealed_text b) longest) (same (struck.clean clean)) (struck.crash is_open clean);
            }

        -- or it couldn't be
        pub not_struck : (after : SealedLog D g) (why : NotReopened) → IsStruckOut g mid after (Err why) → Mends m g mark old new before after (Err why)
        not_struck after why struck = record {
          leaves = leaves;
          stands = λ h stands clean. tt;
          clean = λ clean. cut_clean (struck.clean clean);
          opened = tt;
          bodies = λ clean. tt;
          journal = λ clean h of tells is_clean. tt;
          ends = λ clean. tt;
          marked = λ clean. tt;
          unsealed = λ clean same. refused_by why Unsealed struck.why tt same;
          changed = λ clean at same. refused_by why (Changed at) struck.why tt same;
          whole = λ clean. tt;
          no_line = λ clean same. refused_by why NotALine struck.why tt same;
          line = λ clean h lawful tells. (λ same. refused_by why NotALine struck.why tt same, λ same. refused_by why Unsealed struck.why tt same);
          other = λ clean h of is_clean same. refused_by why OtherJournal struck.why tt same;
          ours = λ clean h of is_clean. tt;
          untouched = λ refusal. outside_no_refusal why struck.why refusal;
          cause = λ h of clean. outside_cause m old new why struck.why;
          word = λ clean.
              cause_later g before.disk mid.disk after.disk why cut_counts
              (λ unusable. absurd (let usable = mid.usable is_open in false≢true (sym unusable ∙ usable))) (struck.word is_open clean);
          crash = λ clean leaves.
              subst (λ (b : List (List ℕ)). LeavesTail g after.disk (sealed_text b) longest) (same (struck.clean clean)) (struck.crash is_open clean);
        }
