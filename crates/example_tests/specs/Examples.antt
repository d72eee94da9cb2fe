-- Small values by which definitions are tried: an office that is its history, a connection, and a
-- filter of one call.
use Rattle.std.specs.Prelude.{◌≡◌, ◌⊎◌, ℕ, List, [], ◌∷◌, Bool, true, false, codes, replicate}
use Rattle.std.specs.Prelude.{IsTrue, Result, Err}
use Rattle.std.proofs.Common.{◌∙◌, ◌++◌, ap, append_assoc, refl, sym}
use Rattle.sqlite.specs.Held.{Held, state}
use Rattle.sqlite.specs.Store.{Ghosts}
use Rattle.seccomp_doc.specs.declared.action.Action.TheVariants.{Allow, Errno}
use Rattle.seccomp_doc.specs.declared.compare.Op.TheVariants.{Equal}
use Rattle.seccomp_doc.specs.Filter.{FilterValue}
use Rattle.profile_text.specs.Digest.{digest_of}
use Rattle.office_words.specs.declared.listed.ProfileRevision.{ProfileRevision}
use Rattle.office_words.specs.declared.fault.Fault.{Fault}
use Rattle.office_words.specs.declared.revision.State.TheVariants.{Open}
use Rattle.office_words.specs.declared.row.UserRow.{UserRow}
use Rattle.office_store.specs.Shown.{IsIdle}
use Rattle.office_founding.specs.declared.fault.OpeningFault.{OpeningFault}
use Rattle.office_founding.specs.declared.fault.OpeningFault.TheVariants.{NoIndex}
use Rattle.office_founding.specs.Founding.{first_user}
use Rattle.office_policy.specs.Examples.{ann, one_submitted, rev, sue, text, web}
use Rattle.office_policy.specs.History.{Event, History, founded, enrolled, voted}
use Rattle.office_policy.specs.Lawful.{IsLawfulHistory}
use Rattle.office_policy.specs.Meaning.{Meaning, Entry, no_entry, entry_of, struck_entry_of}

-- ---- what happens

abbrev pub root : List ℕ
root = codes "root"

abbrev pub desk : List ℕ
desk = codes "desk"

abbrev pub digest : List ℕ
digest = replicate 32 7

-- root founds an office with these listed capabilities
abbrev pub founds : ℕ → Event
founds listed = founded root desk digest listed

abbrev pub founding : History
founding = founds 5 ∷ []

-- ann is enrolled as an author
abbrev pub enrols : Event
enrols = enrolled root (codes "ann") (codes "blue") 2 (replicate 32 1)

abbrev pub enrolment : History
enrolment = enrols ∷ founding

-- rev and sue approve the text that ann handed in, by its digest
abbrev pub approves_text : List ℕ → Event
approves_text who = voted who web 1 (digest_of text) true

abbrev pub approved : History
approved = approves_text sue ∷ approves_text rev ∷ one_submitted

-- ---- what is told

-- what is told of an open revision by ann with these bytes
abbrev pub told_open : ℕ → List ℕ → ProfileRevision
told_open number bytes =
    record { revision = number; state = Open; digest = digest_of bytes; by = ann }

-- ---- an office

-- an office that is a history; a crash leaves that, or the one in doubt
pub record Sketch : Type 0 where
  pub history : History
  pub in_doubt : History
  pub is_open : Bool
  pub faults : ℕ

-- the history with what is written down of an event: one that is struck out isn't there
abbrev pub with_entry : Entry → History → History
with_entry no_entry h = h
with_entry (entry_of e) h = e ∷ h
with_entry (struck_entry_of e) h = h

-- what is meant by such an office, which refuses each event with these faults
abbrev pub sketched : (Fault → Type 0) → Meaning Sketch
sketched Refuses = record {
  is_clean = λ x. Unit {0};
  is_open = λ x. IsTrue x.is_open;
  faults = λ x. x.faults;
  refuses = λ x h e fault. Refuses fault;
  is_of = λ h x. IsLawfulHistory h × (h ≡ x.history);
  keeps = λ x y. y.history ≡ x.history;
  is_stray = λ e x. ⊥;
  adds = λ entry x y. y.history ≡ with_entry entry x.history;
  grows = λ x y. (more : History) × (y.history ≡ more ++ x.history);
  Left = History;
  may_leave = λ x left. (left ≡ x.history) ⊎ (left ≡ x.in_doubt);
  are_of = λ h left. left ≡ h;
  are_begun = λ h e left. ⊥;
  lawful = λ h x of. of.0;
  keeps_itself = λ x. refl;
  keeps_on = λ x y z first then_. then_ ∙ first;
  adds_none = λ x. refl;
  adds_on = λ entry x y z first then_. then_ ∙ ap (with_entry entry) first;
  grows_itself = λ x. ([], refl);
  grows_on = λ x y z first then_. (
    then_.0 ++ first.0,
    then_.1 ∙ ap (λ h. then_.0 ++ h) first.1 ∙ sym (append_assoc then_.0 first.0 x.history),
  );
  strays_shut = λ e x none is. none;
}

-- an office that refuses none, and one that refuses each with this fault alone
abbrev pub quiet : Meaning Sketch
quiet = sketched (λ fault. ⊥)

abbrev pub refusing : Fault → Meaning Sketch
refusing one = sketched (λ fault. fault ≡ one)

-- an office that a crash leaves with what was begun of an event, which is the event
abbrev pub beginning : Meaning Sketch
beginning = record quiet { are_begun = λ h e left. left ≡ e ∷ h }

-- an office that was founded, open and after so many faults; and shut
abbrev pub counting : ℕ → Sketch
counting n = record { history = founding; in_doubt = founding; is_open = true; faults = n }

abbrev pub shut : ℕ → Sketch
shut n = record (counting n) { is_open = false }

-- ann was enrolled, or may have been
abbrev pub grown : ℕ → Sketch
grown n = record (counting n) { history = enrolment; in_doubt = enrolment }

abbrev pub maybe_grown : ℕ → Sketch
maybe_grown n = record (counting n) { in_doubt = enrolment }

-- ---- a connection

-- the first user of an office
abbrev pub first_row : UserRow
first_row = first_user root desk digest

-- a connection outside a transaction, with what was committed
pub record IsAtRest {S : Type 0} (g : Ghosts S) (conn : Held S) : Type 0 where
  pub idle : IsIdle (state g conn)
  pub settled : (state g conn).now ≡ (state g conn).committed
  pub unmarked : (state g conn).marks ≡ []

-- a connection is handed back, since it lacks an index
abbrev pub refusal : {S : Type 0} → Held S → Result (Held S) (OpeningFault × Held S)
refusal conn = Err (NoIndex, conn)

-- a connection that is open or shut, after so many faults
pub record IsAfter {S : Type 0} (g : Ghosts S) (conn : Held S) (is_open : Bool) (faults : ℕ)
    : Type 0 where
  pub openness : (state g conn).is_open ≡ is_open
  pub count : (state g conn).faults ≡ faults

-- ---- a filter

-- a call is allowed where its first argument is this word, and refused otherwise
abbrev pub allowing : ℕ → FilterValue
allowing word = record {
  default = Errno 1;
  architectures = [];
  flags = [];
  entries =
      record {
        names = codes "ioctl" ∷ [];
        action = Allow;
        args = record { index = 0; op = Equal; value = word; value_two = 0 } ∷ [];
      }
      ∷ [];
}
