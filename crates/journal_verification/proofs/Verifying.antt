-- What it takes for an office to be verified.
use Rattle.std.proofs.Common.{◌≡◌, ◌↔◌, ◌∙◌, ◌≤◌, ◌<◌, ℕ, List, [], ◌∷◌, Bool, true, false, Option, Some, None, IfSome, IsTrue, length, sym, subst, arith}
use Rattle.sqlite.specs.Held.{Held, state}
use Rattle.sqlite.specs.State.{HasCleanDisk}
use Rattle.sqlite.specs.Steps.{IsEmpty}
use Rattle.sqlite.specs.Store.{Ghosts}
use Rattle.office_store.specs.Shown.{IsIdle, Shows}
use Rattle.office_store.proofs.Calls.{Settles, leaves_only}
use Rattle.office_policy.specs.Callers.{caller_of}
use Rattle.office_policy.specs.History.{Event, History}
use Rattle.office_policy.specs.TablesOf.{tables_of}
use Rattle.review_office.specs.declared.replay.Unreplayed.{Unreplayed}
use Rattle.review_office.specs.declared.replay.Unreplayed.TheVariants as causes
use Rattle.review_office.specs.Meant.{meaning_over}
use Rattle.review_office.specs.Replayed.{HasOtherText, IsDeniedBy, IsRefused as IsDenied}
use Rattle.journal.specs.Journal.{IsJournalOf, IsSealedJournal}
use Rattle.journal.specs.SealsAt.{IsSealAsked}
use Rattle.journal.specs.Told.{history_told, start}
use Rattle.journal_faults.specs.declared.refused.Refused.{Refused}
use Rattle.journal_faults.specs.declared.refused.Why.{Why}
use Rattle.journal_faults.specs.declared.refused.Why.TheVariants as why
use Rattle.journal_office.specs.Rebuilt.{IsRebuilt, IsRefused, IsUnreplayed, Refutes}
use Rattle.journal_office.proofs.Replays.{goes_then}
use Rattle.journal_faults.specs.declared.difference.Difference.{Difference}
use Rattle.journal_verification.specs.Compared.{Differs}
use Rattle.journal_verification.specs.Refused.{IsFirstUnlawful, IsNotRebuilt, IsWrongAt}
use Rattle.journal_verification.specs.declared.verification.KeptSeal.{KeptSeal}
use Rattle.journal_verification.specs.KeptSeals.{HaveSeal, line_of}
use Rattle.journal_verification.specs.Verified.{HasOtherSeal, IsAhead, IsOther, IsVerified}
use Rattle.sealed_log.specs.Told.{told}
use Rattle.sealed_log.specs.declared.unreadable.Unreadable.TheVariants as unreadable
use Rattle.journal_verification.proofs.Differences.{differ}

unsealed : (bytes : Option (List ℕ)) (h : History) (seal : List ℕ) → IfSome bytes (λ text. IsSealedJournal text h seal) → IfSome bytes (λ text. IsJournalOf text h)
unsealed None h seal is = tt
unsealed (Some text) h seal is = is.journal

-- the seal at its line is the one that was kept
pub same_seal : (bytes : Option (List ℕ)) (kept : Option KeptSeal) (at : Option (List ℕ)) (is : Bool) → IfSome bytes (λ text. IsSealAsked (line_of kept) (told text) at)
    → ((bodies : List (List ℕ)) → IsSealAsked (line_of kept) bodies at → IsTrue is ↔ HaveSeal kept bodies) → is ≡ true → IfSome bytes (λ text. HaveSeal kept (told text))
same_seal None kept at is there tells same = tt
same_seal (Some text) kept at is there tells same = (tells (told text) there).0 same

-- over a store that returns what was written to it
module _ (bytes : Option (List ℕ)) {S : Type 0} (s : Ghosts S) (law : (x : Held S) → HasCleanDisk (state s x)) where
  refuted : (Clean : Type 0) → Clean → (w : Why) → Refutes bytes Clean w → Refutes bytes (Unit {0}) w
  refuted Clean clean (why.Unread unreadable.NotALine) h = h
  refuted Clean clean (why.Unread unreadable.NoEventBefore) h = h
  refuted Clean clean (why.Unread unreadable.Unsealed) h = h
  refuted Clean clean (why.Unread unreadable.TornLine) h = h
  refuted Clean clean (why.Unread unreadable.Read) h = h
  refuted Clean clean (why.Unread (unreadable.NoMemory _)) h = h
  refuted Clean clean why.NotFounded h = h
  refuted Clean clean (why.Unfounded fault) h = h
  refuted Clean clean (why.Unreplayed (causes.Denied denial)) h = λ _. h clean
  refuted Clean clean (why.Unreplayed causes.Founding) h = λ _. h clean
  refuted Clean clean (why.Unreplayed causes.OtherText) h = λ _. h clean
  refuted Clean clean (why.Unreplayed (causes.Fault fault)) h = h

  -- an event that is refused is the first one that isn't allowed
  first_unlawful : (left : Held S) (line : ℕ) (cause : Unreplayed) (Because : Event → History → Type 0) (is : IsUnreplayed bytes (meaning_over s) left line cause)
      → IsDenied (meaning_over s) is.old left is.event (Because is.event) → IsFirstUnlawful bytes line Because
  first_unlawful left line cause Because is denied =
      let clean = law is.old in
      let here = (is.replayed.stands clean).is_of in
      record {
        before = is.before;
        event = is.event;
        after = is.after;
        told = goes_then (start bytes) is.here is.after is.before ((line, is.event) ∷ []) is.replayed.told is.told;
        lawful = is.replayed.lawful clean;
        never = denied.never (history_told is.before) here (law left);
        because = denied.why (history_told is.before) here (law left);
      }

  wrong_at : (conn left : Held S) (line : ℕ) (w : Why) → IsRefused bytes s conn left line w → IsWrongAt bytes line w
  wrong_at conn left line (why.Unread fault) is = record {
    last = is.last;
    before = is.before;
    told = is.told;
    cannot = is.cannot;
    counted = is.counted;
    lawful = λ _. is.lawful (law left);
  }
  wrong_at conn left line why.NotFounded is = is
  wrong_at conn left line (why.Unfounded fault) is = tt
  wrong_at conn left line (why.Unreplayed (causes.Denied denial)) is = first_unlawful left line (causes.Denied denial) (λ e h. IsDeniedBy e h denial) is is.refused
  wrong_at conn left line (why.Unreplayed causes.Founding) is = first_unlawful left line causes.Founding (λ e h. caller_of e ≡ None) is is.refused
  wrong_at conn left line (why.Unreplayed causes.OtherText) is = first_unlawful left line causes.OtherText HasOtherText is is.refused
  wrong_at conn left line (why.Unreplayed (causes.Fault fault)) is = tt

  pub not_rebuilt : (conn left : Held S) (refused : Refused) → IsIdle (state s conn) → IsEmpty (state s conn)
      → IsRefused bytes s conn left refused.line refused.why → Refutes bytes (HasCleanDisk (state s left)) refused.why → IsNotRebuilt bytes s refused
  not_rebuilt conn left refused idle empty is unlawful = record {
    conn = conn;
    idle = idle;
    empty = empty;
    left = left;
    refused = is;
    wrong = wrong_at conn left refused.line refused.why is;
    unlawful = refuted (HasCleanDisk (state s left)) (law left) refused.why unlawful;
  }

  module _ (built : Held S) (count : ℕ) (seal : List ℕ) (lines : ℕ) (rebuilt : IsRebuilt bytes (meaning_over s) count seal lines built) where
    built_shows : Shows (state s built) (tables_of rebuilt.history)
    built_shows =
        let clean = law built in
        let stands = rebuilt.stands clean in
        stands.is_of.tables clean stands.is_open

    -- so does the connection that was made of it
    pub still_shows : (conn : Held S) → conn ≡ built → Shows (state s conn) (tables_of rebuilt.history)
    still_shows conn is = subst (λ (b : Held S). Shows (state s b) (tables_of rebuilt.history)) (sym is) built_shows

    -- its lines haven't the seal that was kept
    pub other_seal : (kept : Option KeptSeal) (at : Option (List ℕ)) (is : Bool) → IfSome bytes (λ text. IsSealAsked (line_of kept) (told text) at)
        → ((bodies : List (List ℕ)) → IsSealAsked (line_of kept) bodies at → IsTrue is ↔ HaveSeal kept bodies) → is ≡ false → HasOtherSeal bytes kept
    other_seal kept at is there tells none = record {
      history = rebuilt.history;
      journal = unsealed bytes rebuilt.history seal rebuilt.journal;
      lawful = rebuilt.lawful (law built);
      other = none_of bytes there;
    }
      where
        none_of : (bytes : Option (List ℕ)) → IfSome bytes (λ text. IsSealAsked (line_of kept) (told text) at) → IfSome bytes (λ text. HaveSeal kept (told text) → ⊥)
        none_of None there = tt
        none_of (Some text) there = λ has. (let yes : IsTrue is = (tells (told text) there).1 has in let no : false ≡ true = sym none ∙ yes in absurd (let c : false ≡ true = no in cc))

    module _ {T : Type 0} (f : Ghosts T) where
      pub verified : (office : Held T) → IsIdle (state f office) → Settles (state f office) → Shows (state f office) (tables_of rebuilt.history) → (kept : Option KeptSeal) → IfSome bytes (λ text. HaveSeal kept (told text)) → (mark : ℕ) → mark ≤ lines
          → IsVerified bytes f kept mark office (record { events = count; seal = seal; lines = lines })
      verified office idle settles shows kept same mark enough =
          let lawful = rebuilt.lawful (law built) in
          record {
            history = rebuilt.history;
            journal = rebuilt.journal;
            counted = rebuilt.counted;
            lined = rebuilt.lined;
            same_seal = same;
            marked = enough;
            lawful = lawful;
            shows = shows;
            stands = record {
              is_of = record { idle = idle; lawful = lawful; tables = λ clean is_open. shows };
              is_open = shows.is_open;
              leaves = leaves_only (state f office) settles (tables_of rebuilt.history) shows;
            };
          }

      -- its mark is above the number of lines
      pub ahead : (office : Held T) → Shows (state f office) (tables_of rebuilt.history) → (mark : ℕ) → lines < mark → IsAhead bytes f mark office
      ahead office shows mark few = record {
        history = rebuilt.history;
        journal = unsealed bytes rebuilt.history seal rebuilt.journal;
        lawful = rebuilt.lawful (law built);
        shows = shows;
        ahead = above bytes rebuilt.lined;
      }
        where
          above : (bytes : Option (List ℕ)) → IfSome bytes (λ text. lines ≡ length (told text)) → IfSome bytes (λ text. length (told text) < mark)
          above None lined = tt
          above (Some text) lined = omega (arith, lined, few)

      pub other : (office : Held T) (d : Difference) → Differs s f built office d → IsOther bytes f s office d
      other office d differs = record {
        history = rebuilt.history;
        journal = unsealed bytes rebuilt.history seal rebuilt.journal;
        lawful = rebuilt.lawful (law built);
        built = built;
        shows = built_shows;
        differs = differs;
        differ = λ u shows. differ s f built office (tables_of rebuilt.history) u d built_shows shows differs;
      }
