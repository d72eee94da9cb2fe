-- A read for which nothing has to be read.
use Rattle.std.proofs.Common.{Ok, IsTrue, refl}
use Rattle.sqlite.specs.State.{State, HasCleanDisk}
use Rattle.office_words.specs.Tables.{Tables}
use Rattle.office_store.specs.Shown.{IsIdle}
use Rattle.office_store.specs.Calls.{IsRead}
use Rattle.office_store.proofs.Calls.{Settles, leaves_only}
use Rattle.office_store.proofs.Committed.{survives_same}

-- a call that needs to read nothing, over an open connection
pub found_unread : {X : Type 0} (s : State) (x : X) (Found : Tables → X → Type 0) → IsIdle s → (HasCleanDisk s → IsTrue s.is_open) → Settles s
    → ((t : Tables) → Found t x) → IsRead s s (Ok x) Found
found_unread s x Found idle is_open law found = record {
  leaves = record {
    idle = idle;
    clean = λ clean. clean;
    survives = survives_same s _;
    answered = λ clean. (is_open clean, is_open clean);
    shut = λ clean shut. (shut, λ same. cc);
    settled = leaves_only s law;
  };
  found = λ t shows clean. found t;
  cause = λ t shows clean. tt;
  shown = λ t shows clean. shows;
  same = λ settled clean is_open. (refl, refl);
  crash = λ clean trees may. may;
}
