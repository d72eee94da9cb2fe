use Rattle.std.proofs.Common.{◌≡◌, [], All, length}
use Rattle.widening.proofs.groups.without_places.Given as goal

abbrev pub invariant-loop : goal.invariant-loop
invariant-loop l = record {
  count : length l.groups.items ≡ l.counter;
  empty : All (λ group. group.items ≡ []) l.groups.items;
}
