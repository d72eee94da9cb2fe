-- The request of a line, and the set of its roles.
use Rattle.std.proofs.Common.{le-ltb, ◌≡◌, ℕ, ◌+◌, ◌<◌, ◌≤◌, ◌^◌, List, length, get_or, drop, Option, Some, None, Result, Ok, Err, option_map, refl, sym, ap, arith, inl, inr}
use Rattle.std.proofs.lemmas.List.{drop_more, drop_all}
use Rattle.std.proofs.lemmas.Bool.{cases_Bool}
use Rattle.std.proofs.lemmas.Nat.Bits.{bit_at_or, same_from_bits}
use Rattle.std.proofs.lemmas.Str.{IsUtf8-from_is_utf8, is_utf8-from_IsUtf8}
use Rattle.std.specs.Prelude.{IsUtf8, option_and_then, cond}
use Rattle.std.specs.Int.Bits.{or_zero_r}
use Rattle.std.specs.Int.RustNames.{bit_or}
use Rattle.std.specs.Str.{is_utf8}
use Rattle.serde_json.specs.Data.{Data}
use Rattle.serde_json.specs.Find.{as_str}
use Rattle.serde_json.specs.Read.{read}
use Rattle.json_tree.specs.View.{view, items_view}
use Rattle.json_tree.specs.declared.tree.Tree.{Tree}
use Rattle.office_words.specs.Role.{place_of}
use Rattle.office_words.specs.WordTables.{role_of}
use Rattle.review_policy.specs.declared.ask.Request.{Request}
use Rattle.office_words.specs.declared.role.Role.{Role}
use Rattle.json_requests.specs.declared.bad.BadLine.TheVariants as bad
use Rattle.json_requests.specs.declared.fault.LineFault.{LineFault}
use Rattle.json_requests.specs.declared.fault.LineFault.TheVariants.{NotJson, NotARequest, NoMemory}
use Rattle.json_requests.specs.Faults.{Gives, Reads}
use Rattle.json_requests.specs.Members.{◌>>=◌, roles_of}
use Rattle.json_requests.specs.Plain.{PlainRequest, plain}
use Rattle.json_requests.specs.Requests.{asked, max_line, request_at, request_in, request_of, or_not_a_request, value_of}

-- ---- the value of a line

pub value_is : (bytes : List ℕ) (d : Data) → IsUtf8 bytes → read bytes ≡ Some d → value_of bytes ≡ Some d
value_is bytes d text e = rw (is_utf8-from_IsUtf8 bytes text) e

pub value_is_none : (bytes : List ℕ) → (IsUtf8 bytes → read bytes ≡ None) → value_of bytes ≡ None
value_is_none bytes h =
    elim (cases_Bool (is_utf8 bytes)) as (λ _. cond (is_utf8 bytes) (read bytes) None ≡ None) [
      | inl text ↦ rw text (h (IsUtf8-from_is_utf8 bytes text))
      | inr wrong ↦ rw wrong refl
    ]

pub line_is : (line : List ℕ) (d : Data) → IsUtf8 line → read line ≡ Some d → request_in line ≡ or_not_a_request (request_at d)
unfolding request_in
line_is line d text e = rw (is_utf8-from_IsUtf8 line text, e) refl

pub line_is_none : (line : List ℕ) → (IsUtf8 line → read line ≡ None) → request_in line ≡ Err bad.NotJson
unfolding request_in
line_is_none line h =
    elim (cases_Bool (is_utf8 line)) as (λ _. request_of (cond (is_utf8 line) (read line) None) ≡ Err bad.NotJson) [
      | inl text ↦ rw (text, h (IsUtf8-from_is_utf8 line text)) refl
      | inr wrong ↦ rw wrong refl
    ]

pub asked_is : (line : List ℕ) → length line ≤ max_line → asked line ≡ request_in line
unfolding asked
asked_is line small = rw (le-ltb max_line (length line) small) refl

pub line_reads : (r : Result Request LineFault) (o : Option PlainRequest) → Gives plain r o → Reads r (or_not_a_request o)
line_reads (Ok r) o g = rw g refl
line_reads (Err NotJson) o g = absurd g
line_reads (Err NotARequest) o g = rw g refl
line_reads (Err (NoMemory _)) o g = tt

-- ---- the roles of a list

or_assoc : (a b c : ℕ) → bit_or (bit_or a b) c ≡ bit_or a (bit_or b c)
or_assoc a b c = same_from_bits _ _ (λ i. simp bit_at_or (omega arith))

with_rest : (roles one : ℕ) (rest : Option ℕ) → option_map (bit_or roles) (rest >>= λ n. Some (bit_or one n)) ≡ option_map (bit_or (bit_or roles one)) rest
with_rest roles one None = refl
with_rest roles one (Some n) = ap (λ x. Some x) (sym (or_assoc roles one n))

pub roles_more : (values : List Tree) (i roles : ℕ) (v : Tree) (r : Role) → i < length values → v ≡ get_or values i v → option_and_then role_of (as_str (view v)) ≡ Some r
    → option_map (bit_or roles) (roles_of (items_view (drop i values))) ≡ option_map (bit_or (bit_or roles (2 ^ place_of r))) (roles_of (items_view (drop (i + 1) values)))
roles_more values i roles v r lt at is =
    rw (drop_more values i v lt, ← at, is) (with_rest roles (2 ^ place_of r) (roles_of (items_view (drop (i + 1) values))))

pub roles_end : (values : List Tree) (i roles : ℕ) → length values ≤ i → option_map (bit_or roles) (roles_of (items_view (drop i values))) ≡ Some roles
roles_end values i roles ge = rw (drop_all i values ge) (ap (λ x. Some x) (or_zero_r roles))
