-- What the reads of a look say of the tables, and what a look leaves of an office.
use Rattle.std.proofs.Common.{inl, inr, ◌≡◌, ◌∙◌, ℕ, List, Bool, true, Option, Some, Result, Ok, Err, sym, ap, subst}
use Rattle.std.specs.Prelude.{◌↔◌, option_map}
use Rattle.sqlite.specs.Held.{Held, state}
use Rattle.sqlite.specs.Store.{Ghosts}
use Rattle.office_words.specs.declared.name.ProfileName.{ProfileName}
use Rattle.office_words.specs.declared.fault.Fault.{Fault}
use Rattle.office_words.specs.declared.role.Role.TheVariants.{Security}
use Rattle.office_words.specs.declared.fault.Fault.TheVariants.{NoMemory, Disk, Full, NotAnOffice}
use Rattle.office_words.specs.declared.row.UserRow.{UserRow}
use Rattle.office_words.specs.Lists.{holds_role}
use Rattle.office_words.specs.Tables.{Tables, Vote}
use Rattle.office_rows.specs.Causes.{HasFailed}
use Rattle.office_store.specs.declared.votes.Ballot.{Ballot}
use Rattle.office_store.specs.Ballots.{vote_of}
use Rattle.office_store.specs.Calls.{IsRead}
use Rattle.office_policy.specs.Handled.{Survives}
use Rattle.office_policy.specs.History.{History}
use Rattle.office_policy.specs.Judging.{LeavesAll}
use Rattle.office_policy.specs.Lawful.{IsLawfulHistory}
use Rattle.office_policy.specs.ShowsEvent.{HasUser}
use Rattle.office_policy.specs.TablesOf.{tables_of}
use Rattle.office_policy.specs.Users.{registrar_alone}
use Rattle.review_office.specs.Looking.{HasLooked, IsMetBetween}
use Rattle.review_office.specs.Meant.{meaning_over}
use Rattle.office_policy.proofs.SurvivalFacts.{or_more}
use Rattle.review_office.proofs.Handling.{was_open_by}
use Rattle.office_judging.proofs.Judging.{never_both}

-- ---- what was found

-- the first user and the listed capabilities
pub founding_shown : (t : Tables) (user team digest : List ℕ) (roles found caps : ℕ) (has_user shown : Bool) → roles ≡ registrar_alone → (has_user ≡ true ↔ HasUser t user team roles digest) → found ≡ t.listed
    → (shown ≡ true ↔ ((has_user ≡ true) × (found ≡ caps))) → shown ≡ true ↔ (HasUser t user team registrar_alone digest × (t.listed ≡ caps))
founding_shown t user team digest roles found caps has_user shown alone has is both = (
  λ e. let it = both.0 e in (subst (λ r. HasUser t user team r digest) alone (has.0 it.0), sym is ∙ it.1),
  λ it. both.1 (has.1 (subst (λ r. HasUser t user team r digest) (sym alone) it.0), is ∙ it.1),
)

-- a vote, with the security of its voter's present row
pub vote_shown : (t : Tables) (p : ProfileName) (n : ℕ) (voter : List ℕ) (approves shown : Bool) (found : Option Ballot) (user : Option UserRow) → option_map vote_of found ≡ t.votes p n voter → user ≡ t.users voter
    → (shown ≡ true ↔ (option_map vote_of found ≡ Some (record { approves = approves; security = holds_role user Security })))
    → shown ≡ true ↔ (t.votes p n voter ≡ Some (record { approves = approves; security = holds_role (t.users voter) Security }))
vote_shown t p n voter approves shown found user is who shows =
    let same = ap vote_by who in ((λ e. sym is ∙ (shows.0 e ∙ same)), (λ there. shows.1 (is ∙ (there ∙ sym same))))
  where
    vote_by : Option UserRow → Option Vote
    vote_by user = Some (record { approves = approves; security = holds_role user Security })

-- ---- the office after a look

module _ {S : Type 0} (g : Ghosts S) (old new : Held S) where
  -- a read changes nothing
  read_leaves : {A : Type 0} (r : Result A Fault) (F : Tables → A → Type 0) → IsRead (state g old) (state g new) r F → LeavesAll (meaning_over g) old new
  read_leaves r F read =
      let survives : Survives (meaning_over g) old new = record {
        clean = read.leaves.clean;
        counts = read.leaves.survives.counts;
        closes = λ clean is_open. or_more (read.leaves.survives.closes clean is_open);
        shut = λ clean. was_open_by (state g old).is_open (state g new).is_open (λ shut. (read.leaves.shut clean shut).0);
        stays = λ e stray. stray;
        grows = λ clean. tt;
      } in
      record {
        survives = survives;
        office = λ h office. record {
          idle = read.leaves.idle;
          lawful = office.lawful;
          tables = λ clean. read.shown (tables_of h) (office.tables (read.leaves.clean clean)) clean;
        };
        kept = λ clean. record { shut = survives.shut clean; same = λ settled. read.same settled clean };
        crash = read.crash;
        adds = λ clean. tt;
        strays = λ e stray. stray;
      }

  -- a fault over the connection is one of the office
  met : (fault : Fault) → HasFailed (state g old) (state g new) fault → IsMetBetween (meaning_over g) old new fault
  met (NoMemory _) failed = tt
  met Disk (inl risen) = λ is_open. risen
  met Disk (inr shut) = λ is_open. never_both (state g old).is_open is_open shut
  met Full risen = risen
  met NotAnOffice none = none

  -- what the read found is so found of each history
  module _ {A : Type 0} (F : Tables → A → Type 0) (Found : History → A → Type 0) (finds : (h : History) (a : A) → IsLawfulHistory h → F (tables_of h) a → Found h a) where
    pub looked : (r : Result A Fault) → IsRead (state g old) (state g new) r F → HasLooked (meaning_over g) old new Found r
    looked (Ok a) read =
        let leaves = read_leaves (Ok a) F read in
        record {
          leaves = leaves;
          found = λ h office clean. finds h a office.lawful (read.found (tables_of h) (office.tables (read.leaves.clean clean)) clean);
          cause = λ h office clean. tt;
          stands = λ h office clean.
              let is_open = (read.leaves.answered clean).1 in
              let still = leaves.office h office in
              record { is_of = still; is_open = is_open; leaves = read.leaves.settled (tables_of h) (still.tables clean is_open) };
        }
    looked (Err fault) read = record {
      leaves = read_leaves {A = A} (Err fault) F read;
      found = λ h office clean. tt;
      cause = λ h office clean. met fault (read.cause (tables_of h) (office.tables (read.leaves.clean clean)) clean);
      stands = λ h office clean. tt;
    }
