use Rattle.std.proofs.Common.{List, ℕ, subst, sym}
use Rattle.sqlite.specs.Files.{file_state}
use Rattle.sqlite.specs.Start.{FindsIn}
use Rattle.memory_database.specs.VolatileFile.{bytes_of}
use Rattle.memory_database.specs.Copies.{FailsToCopy}
use Rattle.memory_database.proofs.CopyFacts.{fails_to_copy, left_is_clean}
use Rattle.memory_database.proofs.MemoryFacts.{copy_is_clean}
use Rattle.memory_database.proofs.copy.open_copy.Goals as goal

pub returns-in-Ok-clause-copy : goal.returns-in-Ok-clause-copy
returns-in-Ok-clause-copy c =
    let clean = copy_is_clean c.in-Ok.conn in
    let found = c.in-Ok.ensures.found clean in
    record {
      fresh = c.in-Ok.ensures.fresh;
      opened = c.in-Ok.ensures.opened clean;
      found = subst (λ (log : List ℕ). FindsIn (record { log = log; db = c.args.database.items }) (file_state c.in-Ok.conn)) c.of.ensures.bytes
          (subst (λ (db : List ℕ). FindsIn (record { log = bytes_of c.of.result; db = db }) (file_state c.in-Ok.conn)) c.of-2.ensures.bytes
          (record { holds = found.holds; reads = found.reads }));
    }

pub returns-clause-cause : goal.returns-clause-cause
returns-clause-cause c =
    let left = c.in-Err.field-0-1 in
    let error = c.in-Err.error in
    let told = fails_to_copy (record { log = c.of.result; db = c.of-2.result }) left error (c.in-Err.ensures.cause (left_is_clean left)) in
    subst (λ (log : List ℕ). FailsToCopy log c.args.database.items c.opening_error.result) c.of.ensures.bytes
    (subst (λ (db : List ℕ). FailsToCopy (bytes_of c.of.result) db c.opening_error.result) c.of-2.ensures.bytes
    (subst (FailsToCopy (bytes_of c.of.result) (bytes_of c.of-2.result)) (sym c.opening_error.ensures) told))
