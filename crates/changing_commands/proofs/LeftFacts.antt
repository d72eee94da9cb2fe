-- What a command leaves in the files of the office that it closed.
use Rattle.std.proofs.Common.{ℕ, Option, None, subst, sym}
use Rattle.sqlite_disk.specs.declared.Disk as disk
use Rattle.sqlite_wal.specs.Recovery.{Image}
use Rattle.sqlite_store.specs.declared.store.FileStore.{FileStore}
use Rattle.sqlite.specs.Files.{file_state, over_files}
use Rattle.sqlite.specs.Held.{Held}
use Rattle.sqlite.specs.State.{HasCleanDisk}
use Rattle.office_founding.specs.Migration.{ShowsOld}
use Rattle.office_founding.specs.Reopening.{HoldsOffice}
use Rattle.office_founding.proofs.Reopened.{found_shows, found_shows_old}
use Rattle.office_policy.specs.History.{History}
use Rattle.office_policy.specs.Lawful.{IsLawfulHistory}
use Rattle.office_policy.specs.TablesOf.{tables_of}
use Rattle.review_office.specs.Offices.{IsOffice}
use Rattle.changing_commands.specs.Hosts.{HoldHistory, FoundingIsLeft, DeskIsLeft, ExchangesAreLeft}
use Rattle.changing_commands.specs.Hosts.{MigrationIsLeft}
use Rattle.command_host.specs.HostFiles.{IsFoundIn, IsClosedInto}
use Rattle.command_host.specs.Openings.{IsClosed, IsOpenedOffice}
use Rattle.changing_commands.proofs.MarkFacts.{closed_holds, crashed_holds}

module _ {D : Type 0} (g : disk.Ghosts D) where
  pub left : (office : Held (FileStore D g)) (mark : Option ℕ) (closed : IsClosed IsClosedInto office mark) (h : History) → (HasCleanDisk (file_state office) → IsOffice h (file_state office))
      → HoldHistory g closed.0 h
  left office mark closed h is clean =
      let copied = closed.1 clean in
      let shows = (is copied.was_clean).tables copied.was_clean copied.was_open in
      (closed_holds office mark closed.0 (tables_of h) shows copied, crashed_holds office mark closed.0 (tables_of h) shows copied)

  pub served : (h : History) (image : Image) → IsLawfulHistory h → HoldsOffice image (tables_of h) → (office : Held (FileStore D g))
      → IsOpenedOffice (over_files {g = g}) (IsFoundIn image) office → HasCleanDisk (file_state office) → IsOffice h (file_state office)
  served h image lawful holds office it clean =
      let found = it.opened (it.over.clean clean) in
      (it.over.stands h lawful (found_shows it.was image (tables_of h) holds found.1 found.0) clean).is_of

  pub founding_left : FoundingIsLeft g
  founding_left image founding it = left it.office None it.closed _ (λ clean. it.founded.founded.0)

  pub desk_left : DeskIsLeft g
  desk_left h image mark lawful holds it =
      left it.new mark it.closed _ (λ clean. it.done.handled.office h (served h image lawful holds it.old it.office (it.done.handled.survives.clean clean)))

  pub exchanges_left : ExchangesAreLeft g
  exchanges_left h image most mark lawful holds it =
      left it.new mark it.closed _ (λ clean. it.done.1.handled.office h (served h image lawful holds it.old it.office (it.done.1.handled.survives.clean clean)))

  pub migration_left : MigrationIsLeft g
  migration_left h image mark holds it clean =
      let copied = it.closed.1 clean in
      let was = it.opened.0 in
      let is_was = it.opened.2 in
      let was_clean : HasCleanDisk (file_state was) = subst (λ (x : Held (FileStore D g)). HasCleanDisk (file_state x)) is_was (it.migration.clean copied.was_clean) in
      let found = it.opened.1 was_clean in
      let shows = found_shows_old was image (tables_of h) holds found.1 found.0 in
      let showed : ShowsOld (file_state it.old) (tables_of h) =
      subst (λ (x : Held (FileStore D g)). ShowsOld (file_state x) (tables_of h)) (sym is_was) (record { is_open = shows.is_open; settled = shows.settled; office = shows.office }) in
      let done = it.migration.done (tables_of h) (λ is_open. showed) copied.was_clean in
      (closed_holds it.new mark it.closed.0 (tables_of h) done.0 copied, crashed_holds it.new mark it.closed.0 (tables_of h) done.0 copied)
