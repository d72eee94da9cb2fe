use Rattle.std.proofs.Common.{◌≡◌, ℕ, Bool, List, rules}
use Rattle.std.specs.Bool.{IsTrue}
use Rattle.std.specs.Str.{bytes_eq}
use Rattle.std.proofs.lemmas.Slice.Eq.{bytes_eq-Decides}
use Rattle.http_requests.proofs.field.same_in_any_case.Goals as goal

tested : (xs ys : List ℕ) (r : Bool) → (IsTrue r → xs ≡ ys) × (xs ≡ ys → IsTrue r) → r ≡ bytes_eq xs ys
tested xs ys r h = search (rules, bytes_eq-Decides)

pub returns : goal.returns
returns c = tested _ _ _ c.eq_ignore_ascii_case.ensures.test
