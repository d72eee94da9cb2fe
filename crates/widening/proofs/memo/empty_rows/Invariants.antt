use Rattle.std.proofs.Common.{◌≡◌, [], All, length}
use Rattle.widening.proofs.memo.empty_rows.Given as goal

abbrev pub invariant-loop : goal.invariant-loop
invariant-loop l = record {
  count : length l.rows.items ≡ l.counter;
  empty : All (λ row. row.items ≡ []) l.rows.items;
}
