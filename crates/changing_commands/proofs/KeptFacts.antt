-- An office that is kept with a journal: what is known of it as it is founded, opened, served and closed.
use Rattle.std.proofs.Common.{◌≡◌, ◌⊎◌, ◌∙◌, ℕ, List, [], ◌∷◌, ◌++◌, arith, length, length-append, take, Option, Some, None, Result, Ok, Err, IsTrue, true, inl, inr, refl, subst, sym, ap}
use Rattle.std.specs.Prelude.{IfErr, IfOk, OnOk, ⊤}
use Rattle.std.proofs.lemmas.List.Elements.{All-cons, All-nil}
use Rattle.std.specs.declared.io.Error.{Error}
use Rattle.sqlite.specs.Held.{Held}
use Rattle.sqlite.specs.Store.{Ghosts}
use Rattle.sqlite_disk.specs.declared.Disk.{Ghosts as DiskGhosts}
use Rattle.sealed_log.specs.Faults.{IsLater}
use Rattle.sealed_log.specs.Log.{bodies_of}
use Rattle.sealed_log.specs.Reading.{IsThrough}
use Rattle.sealed_log.specs.Sealed.{no_seal, seal_on, sealed_line, sealed_lines, sealed_text}
use Rattle.sealed_log.specs.Told.{told}
use Rattle.sealed_log.specs.declared.log.SealedLog.{SealedLog}
use Rattle.sealed_log.specs.declared.through.Through.{Through}
use Rattle.sealed_log.proofs.SealFacts.{length-sealed_line}
use Rattle.sealed_log.proofs.ToldFacts.{told_nothing}
use Rattle.office_policy.specs.EventForms.{HasForms}
use Rattle.journal.specs.Journal.{IsEntry, Says}
use Rattle.journal.specs.Lines.{happened, text_of}
use Rattle.journal.proofs.Lengths.{founding_entry}
use Rattle.office_policy.specs.History.{Event}
use Rattle.journal.specs.Journals.{IsSettled}
use Rattle.journal.specs.Logs.{in_log}
use Rattle.review_office.specs.Meant.{meaning_over}
use Rattle.office_words.specs.declared.fault.Fault.{Fault}
use Rattle.journal.specs.declared.journaled.Journaled.{Journaled}
use Rattle.command_host.specs.declared.fault.CommandFault.{CommandFault}
use Rattle.command_host.specs.declared.fault.CommandFault.TheVariants as fault
use Rattle.changing_commands.specs.declared.founding.Founding.{Founding}
use Rattle.command_host.specs.declared.no_file.NoFile.{NoFile}
use Rattle.changing_commands.specs.Foundings.{founding_event, Described, IsFoundedIn}
use Rattle.changing_commands.specs.Journals.{begun_with, IfJournaled, IsBegunBy, IsClosedKept, IsKeptOffice, IsKeptOver, IsServedWith, mark_beside}
use Rattle.changing_commands.specs.Journals.{IsUnkept, IsUnkeptOver}
use Rattle.changing_commands.specs.Journals.{IsUnfoundedBehind, IsUnfoundedWith, WasFoundedBehind}
use Rattle.command_host.specs.declared.databases.Databases as databases
use Rattle.command_host.specs.Marks.{has_journal}
use Rattle.command_host.specs.Openings.{IsClosed, IsEnded, IsFirstOf, IsUnlimited}
use Rattle.command_host.proofs.OpenedFacts.{opened_office}

-- nothing is sealed in a file where what is sealed ends at its beginning
pub none_sealed : (file : List ℕ) (found : Through) → IsThrough file found → found.at ≡ 0 → told file ≡ []
none_sealed file found through at = go (told file) (through.text ∙ ap (λ n. take n file) at)
  where
    go : (bodies : List (List ℕ)) → sealed_text bodies ≡ [] → bodies ≡ []
    go [] is = refl
    go (body ∷ more) is =
        absurd (omega (
          arith,
          ap length is,
          length-append (sealed_line no_seal body) (sealed_lines (seal_on no_seal body) more),
          length-sealed_line no_seal body,
        ))

-- what is put there is then all that is sealed
pub only_body : (before opened after body : List ℕ) → told before ≡ [] → opened ≡ sealed_text (told before)
    → told after ≡ told opened ++ body ∷ [] → told after ≡ body ∷ []
only_body before opened after body none has put =
    put ∙ ap (λ (bodies : List (List ℕ)). bodies ++ body ∷ [])
    (ap told has ∙ ap (λ (bodies : List (List ℕ)). told (sealed_text bodies)) none ∙ told_nothing)

-- the text of an event is the journal of the history that is just this event
pub says_one : (e : Event) (bodies : List (List ℕ)) → IsEntry (happened e) → bodies ≡ text_of (happened e) ∷ [] → Says bodies (e ∷ [])
says_one e bodies entry is = record {
  lines = happened e ∷ [];
  entries = All-cons IsEntry (happened e) [] entry (All-nil IsEntry);
  are = is;
  history = refl;
}

-- the founding of a founding is one
pub founding_is : (founding : Founding) → HasForms (founding_event founding) → IsEntry (happened (founding_event founding))
founding_is founding forms = founding_entry (founding_event founding) forms forms

-- a file that was made has just the line of a founding
pub begun_by : {L : Type 0} (f : DiskGhosts L) (Created : Result L NoFile → Type 0) (founding : Founding) (made : L) (log : SealedLog L f) (text : List ℕ) → Created (Ok made)
    → HasForms (founding_event founding) → text ≡ text_of (happened (founding_event founding)) → log.is_open ≡ true
    → (IsTrue (f.is_clean log.disk) → IsTrue (f.is_clean made)) → IsLater f made log.disk → (IsTrue (f.is_clean log.disk) → bodies_of f log ≡ text ∷ []) → IsBegunBy f Created founding log
begun_by f Created founding made log text created forms is is_open clean counts has = record {
  made = made;
  created = created;
  clean = clean;
  counts = counts;
  forms = forms;
  line = (is_open, λ clean. has clean ∙ ap (λ (t : List ℕ). t ∷ []) is);
  says = λ clean. says_one (founding_event founding) (bodies_of f log) (founding_is founding forms) (has clean ∙ ap (λ (t : List ℕ). t ∷ []) is);
}

-- why a command failed without a journal
pub failed_without : (given : Option (List ℕ)) (Without : CommandFault → Type 0) (With : List ℕ → CommandFault → Type 0) (r : Result (Unit {0}) CommandFault) → given ≡ None
    → IfErr r Without → IfErr r (λ why. IfJournaled given (Without why) (λ file. With file why))
failed_without given Without With (Ok done) is failed = tt
failed_without given Without With (Err why) is failed = subst (λ (o : Option (List ℕ)). IfJournaled o (Without why) (λ file. With file why)) (sym is) failed

-- and with one
pub failed_with : (given : Option (List ℕ)) (file : List ℕ) (Without : CommandFault → Type 0) (With : List ℕ → CommandFault → Type 0) (r : Result (Unit {0}) CommandFault)
    → given ≡ Some file → IfErr r (With file) → IfErr r (λ why. IfJournaled given (Without why) (λ file. With file why))
failed_with given file Without With (Ok done) is failed = tt
failed_with given file Without With (Err why) is failed = subst (λ (o : Option (List ℕ)). IfJournaled o (Without why) (λ file. With file why)) (sym is) failed

module _ {S D C L : Type 0} (g : Ghosts S) (f : DiskGhosts L) (Found : Result L NoFile → Type 0) (d : databases.Ghosts D (Held S) C) (path : List ℕ) (mark : ℕ)
    (Done : (old new : Journaled (Held S) (SealedLog L f)) → Type 0) (Stops : CommandFault → (old new : Journaled (Held S) (SealedLog L f)) → Type 0) where
  pub was_kept : (old new : Journaled (Held S) (SealedLog L f)) → IsKeptOffice g f Found (d.opened path) mark old → (served closed result : Result (Unit {0}) CommandFault)
      → OnOk served (Done old new) → IfErr served (λ why. Stops why old new) → OnOk closed (IsClosedKept g f (IsClosed d.closed) new) → IsClosedKept g f (IsEnded d) new
      → IfErr closed (λ why. why ≡ fault.Close) → IsFirstOf served closed result → IsServedWith g f Found d path mark Done Stops result
  was_kept old new office (Ok a) (Ok b) result done stops closed ended why is =
      subst (λ r. IsServedWith g f Found d path mark Done Stops r) (sym is) (record { old = old; new = new; office = office; done = done; ended = closed })
  was_kept old new office (Ok a) (Err w) result done stops closed ended why is =
      subst (λ r. IsServedWith g f Found d path mark Done Stops r) (sym is)
      (inr (why, record { old = old; new = new; office = office; done = done; ended = ended }))
  was_kept old new office (Err w) closed result done stops _ ended why is =
      subst (λ r. IsServedWith g f Found d path mark Done Stops r) (sym is)
      (inl (record { old = old; new = new; office = office; done = stops; ended = ended }))

  -- nothing was done with it
  pub was_only_kept : (x : Journaled (Held S) (SealedLog L f)) → IsKeptOffice g f Found (d.opened path) mark x → (closed : Result (Unit {0}) CommandFault)
      → Done x x → OnOk closed (IsClosedKept g f (IsClosed d.closed) x) → IsClosedKept g f (IsEnded d) x
      → IfErr closed (λ why. why ≡ fault.Close) → IsServedWith g f Found d path mark Done Stops closed
  was_only_kept x office closed done shut ended why = was_kept x x office (Ok (tt {0})) closed closed done (tt {0}) shut ended why refl

module _ {S D C L : Type 0} (g : Ghosts S) (f : DiskGhosts L) (Found : Result L NoFile → Type 0) (d : databases.Ghosts D (Held S) C) (path : List ℕ) (mark : ℕ) (conn : Held S)
    (opened : IsUnlimited (d.opened path) conn) where
  -- an office over a connection that was opened at a path is the one there
  pub kept_there : {E : Type 0} (r : Result (Journaled (Held S) (SealedLog L f)) E) → IfOk r (IsKeptOver g f Found conn mark) → IfOk r (IsKeptOffice g f Found (d.opened path) mark)
  kept_there (Ok x) it = record { was = it.office; office = opened_office g (d.opened path) conn it.office opened it.over; journal = it.journal }
  kept_there (Err why) it = tt

  -- where its mark is of a journal
  pub kept_marked : {E : Type 0} (r : Result (Journaled (Held S) (SealedLog L f)) E) → d.marked path (Ok mark) → IsTrue (has_journal mark) → IfOk r (IsKeptOver g f Found conn mark)
      → IfOk r (λ x. (m : ℕ) × d.marked path (Ok m) × IsTrue (has_journal m) × IsKeptOffice g f Found (d.opened path) m x)
  kept_marked {E} (Ok x) marked has it = (mark, marked, has, kept_there {E = E} (Ok x) it)
  kept_marked (Err why) marked has it = tt

  pub unkept_there : {A : Type 0} (r : Result A CommandFault) → IfErr r (IsUnkeptOver g f Found d conn mark) → IfErr r (IsUnkept g f Found d path mark)
  unkept_there (Ok x) it = tt
  unkept_there (Err why) (inl it) = inl (inr (conn, opened, it))
  unkept_there (Err why) (inr it) =
      inr (record { old = it.0; new = it.1; office = opened_office g (d.opened path) conn it.0 opened it.2; none = it.3; closed = it.4 })

  pub unkept_marked : {A : Type 0} (First : CommandFault → Type 0) (r : Result A CommandFault) → d.marked path (Ok mark) → IsTrue (has_journal mark) → IfErr r (IsUnkeptOver g f Found d conn mark)
      → IfErr r (λ why. First why ⊎ ((m : ℕ) × d.marked path (Ok m) × IsTrue (has_journal m) × IsUnkept g f Found d path m why))
  unkept_marked First (Ok x) marked has it = tt
  unkept_marked {A} First (Err why) marked has it = inr (mark, marked, has, unkept_there {A = A} (Err why) it)

module _ {S D C L : Type 0} (g : Ghosts S) (f : DiskGhosts L) (Created : Result L NoFile → Type 0) (d : databases.Ghosts D (Held S) C) (path : List ℕ) where
  pub founded_behind : (founding : Founding) (log : SealedLog L f) (x : Journaled (Held S) (SealedLog L f)) (r : Result (Unit {0}) CommandFault) → IsBegunBy f Created founding log
      → x ≡ begun_with x.office log → IsFoundedIn g (d.opened path) (Ok founding) x.office → OnOk r (IsClosedKept g f (IsClosed d.closed) x)
      → OnOk r (WasFoundedBehind g f Created (d.opened path) (IsClosed d.closed) founding)
  founded_behind founding log x (Ok done) begun is founded closed = record {
    log = log;
    journal = begun;
    office = x.office;
    founded = founded;
    ended = subst (λ (y : Journaled (Held S) (SealedLog L f)). IsClosedKept g f (IsClosed d.closed) y) is closed;
  }
  founded_behind founding log x (Err why) begun is founded closed = tt

  pub behind_open : (Removed : L → Result ⊤ Error → Type 0) (founding : Founding) (log : SealedLog L f) (x : Journaled (Held S) (SealedLog L f)) (r : Result (Unit {0}) CommandFault)
      → IsBegunBy f Created founding log → x ≡ begun_with x.office log → IsFoundedIn g (d.opened path) (Ok founding) x.office → IsClosedKept g f (IsEnded d) x
      → IfErr r (λ why. why ≡ fault.Close) → IfErr r (IsUnfoundedBehind g f Created Removed d path founding)
  behind_open Removed founding log x (Ok done) begun is founded ended closed = tt
  behind_open Removed founding log x (Err why) begun is founded ended closed = inr (record {
    log = log;
    journal = begun;
    office = inr (closed, (x.office, founded, subst (λ (y : Journaled (Held S) (SealedLog L f)). IsClosedKept g f (IsEnded d) y) is ended));
  })

  -- the founding that words describe
  pub unfounded_with : (Removed : L → Result ⊤ Error → Type 0) (described : Described) (founding : Founding) (r : Result (Unit {0}) CommandFault) → described ≡ Ok founding
      → IfErr r (IsUnfoundedBehind g f Created Removed d path founding) → IfErr r (IsUnfoundedWith g f Created Removed d path described)
  unfounded_with Removed described founding (Ok done) is failed = tt
  unfounded_with Removed described founding (Err why) is failed = inr (founding, is, inr failed)

module _ {S L : Type 0} (g : Ghosts S) (f : DiskGhosts L) (Closed : Held S → Option ℕ → Type 0) (x last : Journaled (Held S) (SealedLog L f)) (came : Result ⊤ Fault)
    (settled : IsSettled (meaning_over g) (in_log f) x last came) (parts : Held S × SealedLog L f) (are : parts ≡ (last.office, last.journal)) (mark : Option ℕ)
    (is : mark ≡ mark_beside parts.1) where
  -- an office with its journal was closed with the mark beside that
  pub closed_kept : Closed parts.0 mark → IsClosedKept g f Closed x
  closed_kept closed = record {
    last = last;
    came = came;
    settled = settled;
    closed = subst (λ (p : Held S × SealedLog L f). Closed p.0 (mark_beside p.1)) are (subst (λ (m : Option ℕ). Closed parts.0 m) is closed);
  }

  pub closed_kept_if : (r : Result (Unit {0}) CommandFault) → OnOk r (Closed parts.0 mark) → OnOk r (IsClosedKept g f Closed x)
  closed_kept_if (Ok done) closed = closed_kept closed
  closed_kept_if (Err why) closed = tt
