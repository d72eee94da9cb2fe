use Rattle.std.proofs.Common.{ℕ, Bool, List, cond, ◌∙◌, ap, ap₂, subst}
use Rattle.sqlite_disk.specs.Events.{Event, replay}
use Rattle.sqlite_disk.specs.declared.modelled.Modelled.{Modelled}
use Rattle.sqlite_wal.specs.Recovery.{Image}
use Rattle.sqlite.specs.Files.{file_state}
use Rattle.sqlite.specs.Start.{FindsIn}
use Rattle.command_host.proofs.host_files.connection.Goals as goal

abbrev image : List ℕ → List ℕ → Image
image log db = record { log = log; db = db }

abbrev seen : List ℕ → List ℕ → Bool → List Event → List ℕ
seen log db is_log history = (replay (cond is_log log db) history).seen

-- the named files are those that were opened, and nothing has happened to them since
pub returns-in-Ok : goal.returns-in-Ok
returns-in-Ok g c = λ clean.
    let (log, db) = c.requires.fresh in
    let found = c.in-Ok.ensures.found clean in
    let seen_in = seen g.T.Start.log g.T.Start.db in
    let log_seen = ap₂ seen_in (ap (λ (f : Modelled _ _ _ _). f.is_log) c.new.ensures.inner ∙ log.0) (ap (λ (f : Modelled _ _ _ _). f.calls.log.events) c.new.ensures.inner ∙ log.1) in
    let db_seen = ap₂ seen_in (ap (λ (f : Modelled _ _ _ _). f.is_log) c.new-2.ensures.inner ∙ db.0) (ap (λ (f : Modelled _ _ _ _). f.calls.log.events) c.new-2.ensures.inner ∙ db.1) in
    (c.in-Ok.ensures.opened clean, subst (λ i. FindsIn i (file_state c.in-Ok.conn)) (ap₂ image log_seen db_seen) (record { holds = found.holds; reads = found.reads }))
