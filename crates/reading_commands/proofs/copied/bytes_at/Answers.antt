use Rattle.std.proofs.Common.{rules, ◌≡◌, Err, inl, inr}
use Rattle.reading_commands.proofs.copied.bytes_at.Goals as goal

pub returns-in_err-log-clause-none : goal.returns-in_err-log-clause-none
returns-in_err-log-clause-none g c =
    let told : c.from_residual.result ≡ Err c.in_err-log.field-0.0 = search rules in
    rw told (inl (c.in_err-log.ensures.there, rw c.as_str.ensures.value at c.in_err-log.ensures.none))

pub returns-in_err-database-clause-none : goal.returns-in_err-database-clause-none
returns-in_err-database-clause-none g c =
    let told : c.from_residual-in_err-database.result ≡ Err c.in_err-database.field-0.0 = search rules in
    rw told (inr (
      c.in_ok-log.log.items,
      rw c.as_str.ensures.value at c.in_ok-log.ensures.bytes,
      rw c.deref.ensures.value at (rw c.as_str-2.ensures at c.in_err-database.ensures.none),
    ))

pub returns-clause-given : goal.returns-clause-given
returns-clause-given g c = record {
  from_log = rw c.as_str.ensures.value at c.in_ok-log.ensures.bytes;
  from_database = rw c.deref.ensures.value at (rw c.as_str-2.ensures at c.in_ok-database.ensures.bytes);
}
