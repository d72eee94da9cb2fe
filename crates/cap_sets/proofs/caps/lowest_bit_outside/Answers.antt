use Rattle.std.proofs.Common.{sym, arith}
use Rattle.cap_sets.proofs.Lowest.{within_from_none, lowest_from_some}
use Rattle.cap_sets.proofs.Searches.{search_from_within, search_from_lowest}
use Rattle.cap_sets.proofs.caps.lowest_bit_outside.Goals as goal

pub returns-then-outside-eq0 : goal.returns-then-outside-eq0
returns-then-outside-eq0 c =
    let within = within_from_none c.args.bits c.args.other (omega arith) (omega arith) c.if-outside-eq0.true in
    record { found = tt; none = within; value = sym (search_from_within c.args.bits c.args.other within) }

pub returns-else-outside-eq0 : goal.returns-else-outside-eq0
returns-else-outside-eq0 c =
    let lowest = lowest_from_some c.args.bits c.args.other (omega arith) (omega arith) c.if-outside-eq0.false in
    record { found = lowest; none = tt; value = sym (search_from_lowest c.args.bits c.args.other _ lowest) }
