use Rattle.std.proofs.Common.{◌≡◌, ◌∙◌, ℕ, ◌<◌, List, Bool, true, false, not, nat_eq, length, map, get_or, refl, sym, ap, arith}
use Rattle.std.proofs.lemmas.List.{get_or-map}
use Rattle.std.proofs.lemmas.List.FromFn.{get_or-map-range_with_len}
use Rattle.std.specs.List.{range_with_len}
use Rattle.seccomp_doc.specs.Word.{is_call_byte}
use Rattle.seccomp_doc.specs.declared.call_name.TheConstants.{CALL_BYTES}
use Rattle.seccomp_doc.proofs.call_name.is_call_byte.Goals as goal

-- no comma
abbrev is_own : ℕ → Bool
is_own n = not (nat_eq n 44)

-- the table has no comma just where a byte may stand
table_is : map is_own CALL_BYTES ≡ map is_call_byte (range_with_len 0 256)
table_is = refl

table_long : length CALL_BYTES ≡ 256
table_long = refl

at_byte : (b : ℕ) → b < 256 → is_own (get_or CALL_BYTES b 0) ≡ is_call_byte b
at_byte b h =
    let within : b < length CALL_BYTES = rw table_long h in
    sym (get_or-map is_own CALL_BYTES b 0 false within)
    ∙ ap (λ t. get_or t b false) table_is
    ∙ get_or-map-range_with_len is_call_byte 0 256 b b false h (omega arith)

pub returns : goal.returns
returns c = rw c.from.ensures (at_byte c.args.byte (omega arith))
