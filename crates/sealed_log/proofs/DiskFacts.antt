-- What a crash may leave of a file, behind the bytes that are settled.
use Rattle.std.proofs.Common.{◌≡◌, ◌⊎◌, inl, inr, ℕ, min, ◌+◌, ◌-◌, ◌^◌, ◌≤◌, ◌<◌, List, [], ◌++◌, length, take, drop, slice_index, refl, sym, ap, subst, ◌∙◌, arith, length-append, length-drop, take-append-drop, Bool, false, IsTrue, is_ok, Result, Ok, Err, OnErr, OnOk}
use Rattle.std.proofs.lemmas.List.{append-nil, drop_all, drop_at, ext_get_or, get_or-take, get_or_append_left, length-take-le, nil_from_length}
use Rattle.sqlite_disk.specs.Disk.{Holds, Torn, Cut, MoreFaults, Only, Follows}
use Rattle.sqlite_disk.specs.declared.Disk.{Ghosts}
use Rattle.sealed_log.specs.Told.{HasTail}
use Rattle.sealed_log.specs.Disks.{HasJust, LeavesTail}
use Rattle.sealed_log.proofs.LineFacts.{held}

-- a file that has the bytes at its front
front : (bytes file : List ℕ) (most : ℕ) → length bytes ≤ length file → length file ≤ length bytes + most
    → ((i : ℕ) → i < length bytes → slice_index file i ≡ slice_index bytes i) → HasTail bytes most file
front bytes file most long short same =
    let n = length bytes in
    let size = length-take-le n file long in
    let is : take n file ≡ bytes = ext_get_or 0 (take n file) bytes size λ i low.
    let below : i < n = omega (arith, low, size) in
    get_or-take n file i 0 below ∙ same i below in
    record {
      tail = drop n file;
      short = omega (arith, length-drop n file, short);
      is = sym (take-append-drop n file) ∙ ap (λ (l : List ℕ). l ++ drop n file) is;
    }

pub torn_tail : (bytes file : List ℕ) (n : ℕ) → Torn (length bytes) n bytes file → HasTail bytes n file
torn_tail bytes file n torn =
    front bytes file n torn.no_shorter (omega (arith, torn.no_longer)) (λ i low. torn.below i low low)

pub cut_tail : (bytes file cut : List ℕ) (most : ℕ) → HasTail bytes most file → Cut (length bytes) file cut → HasTail bytes most cut
cut_tail bytes file cut most has is =
    let size = ap length has.is ∙ length-append bytes has.tail in
    front bytes cut most (omega (arith, is.no_shorter, size)) (omega (arith, is.no_longer, size, has.short)) (λ i low.
    is.below i (omega (arith, size)) low ∙ ap (λ (l : List ℕ). slice_index l i) has.is ∙ get_or_append_left bytes has.tail 0 i low)

-- bytes with no tail
pub no_tail : (bytes file : List ℕ) (most : ℕ) → HasTail bytes most file → length file ≡ length bytes → file ≡ bytes
no_tail bytes file most has size =
    let none = nil_from_length has.tail (omega (arith, ap length has.is, length-append bytes has.tail, size)) in
    has.is ∙ ap (λ (l : List ℕ). bytes ++ l) none ∙ append-nil bytes

-- bytes whose tail is what was written
pub tail_held : (bytes line file : List ℕ) → HasTail bytes (length line) file → Holds file (length bytes) line → file ≡ bytes ++ line
tail_held bytes line file has holds =
    let tail = has.tail in
    let there : tail ≡ drop (length bytes) file = sym (ap (drop (length bytes)) has.is ∙ drop_at bytes tail (length bytes) refl) in
    let size = ap length has.is ∙ length-append bytes tail in
    let rest : drop (length bytes + length line) file ≡ [] = drop_all (length bytes + length line) file (omega (arith, size, has.short)) in
    has.is ∙ ap (λ (l : List ℕ). bytes ++ l)
    (there ∙ held file line (length bytes) holds ∙ ap (λ (l : List ℕ). line ++ l) rest ∙ append-nil line)

module _ {D : Type 0} (g : Ghosts D) where
  -- what a crash leaves in the middle of a write, and of a cut
  pub crash_in_write : (old new : D) (bytes : List ℕ) (at n : ℕ) → at ≡ length bytes → Only bytes (g.may_leave old)
      → Follows (Torn at n) (g.may_leave old) (g.may_leave new) → LeavesTail g new bytes n
  crash_in_write old new bytes at n is only follows left may =
      let from = follows left may in
      let torn = subst (λ k. Torn k n from.0 left) is from.2 in
      torn_tail bytes left n (subst (λ (f : List ℕ). Torn (length bytes) n f left) (only from.0 from.1) torn)

  pub crash_in_cut : (old new : D) (bytes : List ℕ) (at most : ℕ) → at ≡ length bytes → LeavesTail g old bytes most
      → Follows (Cut at) (g.may_leave old) (g.may_leave new) → LeavesTail g new bytes most
  crash_in_cut old new bytes at most is leaves follows left may =
      let from = follows left may in
      cut_tail bytes from.0 left most (leaves from.0 from.1) (subst (λ k. Cut k from.0 left) is from.2)

  -- a file that was cut and synced
  pub settle_cut : (old mid new : D) (bytes : List ℕ) (at most : ℕ) → at ≡ length bytes → HasTail bytes most (g.seen old)
      → Cut at (g.seen old) (g.seen mid) → length (g.seen mid) ≡ at → g.seen new ≡ g.seen mid → Only (g.seen mid) (g.may_leave new)
      → HasJust g new bytes
  settle_cut old mid new bytes at most is has cut long same only =
      let file = g.seen mid in
      let tail = cut_tail bytes (g.seen old) file most has (subst (λ k. Cut k (g.seen old) file) is cut) in
      let just : file ≡ bytes = no_tail bytes file most tail (long ∙ is) in
      record { seen = same ∙ just; settled = λ left may. only left may ∙ just }

  -- a file behind which a line was written, and that was synced
  pub settle_line : (old mid new : D) (bytes line : List ℕ) (at : ℕ) → at ≡ length bytes → HasJust g old bytes
      → Torn at (length line) (g.seen old) (g.seen mid) → Holds (g.seen mid) at line → g.seen new ≡ g.seen mid
      → Only (g.seen mid) (g.may_leave new) → HasJust g new (bytes ++ line)
  settle_line old mid new bytes line at is has torn holds same only =
      let file = g.seen mid in
      let here = subst (λ k. Torn k (length line) (g.seen old) file) is torn in
      let tail = torn_tail bytes file (length line) (subst (λ (f : List ℕ). Torn (length bytes) (length line) f file) has.seen here) in
      let just : file ≡ bytes ++ line = tail_held bytes line file tail (subst (λ k. Holds file k line) is holds) in
      record { seen = same ∙ just; settled = λ left may. only left may ∙ just }

  -- what is seen in the middle of a write
  pub seen_in_write : (old mid : D) (bytes : List ℕ) (at n : ℕ) → at ≡ length bytes → g.seen old ≡ bytes
      → Torn at n (g.seen old) (g.seen mid) → HasTail bytes n (g.seen mid)
  seen_in_write old mid bytes at n is has torn =
      torn_tail bytes (g.seen mid) n (subst (λ (f : List ℕ). Torn (length bytes) n f (g.seen mid)) has
      (subst (λ k. Torn k n (g.seen old) (g.seen mid)) is torn))

pub on_ok : {T E : Type 0} (r : Result T E) (P Q : Type 0) → OnOk r P → (P → Q) → OnOk r Q
on_ok (Ok x) P Q p f = f p
on_ok (Err e) P Q p f = p

pub ok_usable : {T E : Type 0} (r : Result T E) (b : Bool) → b ≡ is_ok r → OnOk r (IsTrue b)
ok_usable (Ok x) b is = is
ok_usable (Err e) b is = tt

pub on_err : {T E : Type 0} (r : Result T E) (P : Type 0) → P → OnErr r P
on_err (Ok x) P p = tt
on_err (Err e) P p = p

pub err_usable : {T E : Type 0} (r : Result T E) (b : Bool) (Q : Type 0) → b ≡ is_ok r → OnErr r ((b ≡ false) ⊎ Q)
err_usable (Ok x) b Q is = tt
err_usable (Err e) b Q is = inl is

-- a call that failed, and then another or a sync
pub failed_on : (b : Bool) (x y z : ℕ) → MoreFaults x y → (b ≡ false) ⊎ MoreFaults y z → (b ≡ false) ⊎ (min (x + 2) (2 ^ 64 - 1) ≤ z)
failed_on b x y z first (inl is) = inl is
failed_on b x y z first (inr second) = inr (omega (arith, first, second))
