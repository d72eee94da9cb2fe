use Rattle.std.proofs.Common.{◌≡◌, ◌≤◌, true, take, min}
use Rattle.std.specs.List.{list_all}
use Rattle.std.specs.Char.{is_ascii_digit}
use Rattle.std.specs.Str.Parse.{digits_value}
use Rattle.http_requests.proofs.number.decimal.Given as goal

abbrev pub invariant-loop-b : goal.invariant-loop-b
invariant-loop-b l = (l.n ≤ l.cap) × (l.n ≡ min (digits_value 10 (take l.b-index l.text)) l.cap) × (list_all is_ascii_digit (take l.b-index l.text) ≡ true)
