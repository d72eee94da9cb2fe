-- The words of votes.
use Rattle.std.proofs.Common.{◌≡◌, ℕ, List, Bool, true, false, cond, Some, None, Option, codes, refl, sym, subst}
use Rattle.std.specs.Prelude.{bytes_eq, ◌↔◌}
use Rattle.std.proofs.lemmas.Slice.Eq.{bytes_eq-Decides}
use Rattle.json_requests.specs.Members.{approves}

same : (text word : List ℕ) → bytes_eq text word ≡ true → text ≡ word
same text word e = (bytes_eq-Decides text word).0 e

-- what a text says, by whether it is either word
abbrev said : Bool → Bool → Option Bool
said is_approve is_reject = cond is_approve (Some true) (cond is_reject (Some false) None)

by_approve : (text : List ℕ) (a r : Bool) → bytes_eq text (codes "approve") ≡ a → said a r ≡ Some true → text ≡ codes "approve"
by_approve text true r e is = same text (codes "approve") e
by_approve text false true e is = absurd (cc)
by_approve text false false e is = absurd (cc)

by_reject : (text : List ℕ) (a r : Bool) → bytes_eq text (codes "reject") ≡ r → said a r ≡ Some false → text ≡ codes "reject"
by_reject text true r e is = absurd (cc)
by_reject text false true e is = same text (codes "reject") e
by_reject text false false e is = absurd (cc)

pub approving : (text : List ℕ) → (approves text ≡ Some true) ↔ (text ≡ codes "approve")
approving text = (
  λ is. by_approve text (bytes_eq text (codes "approve")) (bytes_eq text (codes "reject")) refl is,
  λ is. subst (λ (t : List ℕ). approves t ≡ Some true) (sym is) refl,
)

pub rejecting : (text : List ℕ) → (approves text ≡ Some false) ↔ (text ≡ codes "reject")
rejecting text = (
  λ is. by_reject text (bytes_eq text (codes "approve")) (bytes_eq text (codes "reject")) refl is,
  λ is. subst (λ (t : List ℕ). approves t ≡ Some false) (sym is) refl,
)
