use Rattle.std.proofs.lemmas.List.Filters.{dedup_is}
use Rattle.widening.proofs.Ordered.{ordered_once, sorted_once}
use Rattle.widening.proofs.listing.put_in_byte_order.Goals as goal

pub returns-clause-texts : goal.returns-clause-texts
returns-clause-texts c = sorted_once _ _ _ c.in_ok-sort.ensures.permutation c.in_ok-sort.ensures.sorted (dedup_is _ _ _ c.dedup.ensures.filtered)

pub returns-clause-order : goal.returns-clause-order
returns-clause-order c = ordered_once _ _ c.in_ok-sort.ensures.sorted (dedup_is _ _ _ c.dedup.ensures.filtered)
