use Rattle.std.proofs.Common.{◌≡◌, length, map, take}
use Rattle.httparse.specs.Spans.{header_bytes}
use Rattle.http_requests.specs.Fields.{IsFoundWithin, shown, values_as, all_values}
use Rattle.http_requests.proofs.field.value_of.Given as goal

abbrev pub invariant-loop-header : goal.invariant-loop-header
invariant-loop-header l = (shown l.bytes l.found ≡ values_as (all_values l.name (map (header_bytes l.bytes) (take l.header-index l.headers)))) × IsFoundWithin (length l.bytes) l.found
