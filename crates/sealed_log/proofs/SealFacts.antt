-- What seals are made of, and one line more.
use Rattle.std.proofs.Common.{◌≡◌, ◌≢◌, ℕ, zero, suc, ◌+◌, ◌*◌, ◌/◌, ◌%◌, Bool, true, not, ◌&&◌, ◌==◌, List, [], ◌∷◌, ◌++◌, length, get_or, refl, sym, ap, ◌∙◌, arith, append_assoc, length-append}
use Rattle.std.proofs.lemmas.List.{append-nil}
use Rattle.std.proofs.lemmas.List.Elements.{All-nil, All-cons, All-append, All-from_get_or}
use Rattle.hex.specs.Hex.{encode_with, lower_digits}
use Rattle.hex.proofs.HexLemmas.{length-encode_with}
use Rattle.sha2.specs.Sha256.{sha256}
use Rattle.sha2.proofs.Facts256.{length-sha256}
use Rattle.streams.specs.Lines.{NoFeed}
use Rattle.sealed_log.specs.Sealed.{before_body, before_seal, behind_seal, wrapped, seal_on, no_seal, sealed_line, sealed_lines, last_seal}

pub length-seal_on : (prior body : List ℕ) → length (seal_on prior body) ≡ 64
unfolding seal_on
length-seal_on prior body =
    length-encode_with lower_digits (sha256 (prior ++ body)) ∙ ap (λ n. 2 * n) (length-sha256 (prior ++ body))

pub length-no_seal : length no_seal ≡ 64
unfolding no_seal
length-no_seal = refl

abbrev lacks_feed : List ℕ → Bool
lacks_feed [] = true
lacks_feed (x ∷ xs) = not (x == 10) && lacks_feed xs

none_among : (xs : List ℕ) → lacks_feed xs ≡ true → (k : ℕ) → get_or xs k 0 ≢ 10
none_among [] none k is = omega arith
none_among (x ∷ xs) none zero is = grind arith
none_among (x ∷ xs) none (suc k) is = none_among xs (grind arith) k is

-- no digit is a line feed, nor is what stands behind the last
digit_is_no_feed : (k : ℕ) → get_or lower_digits k 0 ≢ 10
digit_is_no_feed k = none_among lower_digits refl k

NoFeed-encode_with : (xs : List ℕ) → NoFeed (encode_with lower_digits xs)
unfolding encode_with
NoFeed-encode_with [] = All-nil (λ byte. byte ≢ 10)
NoFeed-encode_with (x ∷ xs) =
    All-cons (λ byte. byte ≢ 10) (get_or lower_digits (x / 16) 0) (get_or lower_digits (x % 16) 0 ∷ encode_with lower_digits xs) (digit_is_no_feed (x / 16))
    (All-cons (λ byte. byte ≢ 10) (get_or lower_digits (x % 16) 0) (encode_with lower_digits xs) (digit_is_no_feed (x % 16)) (NoFeed-encode_with xs))

pub NoFeed-seal_on : (prior body : List ℕ) → NoFeed (seal_on prior body)
unfolding seal_on
NoFeed-seal_on prior body = NoFeed-encode_with (sha256 (prior ++ body))

pub length-before_body : length before_body ≡ 8
unfolding before_body
length-before_body = refl

pub length-before_seal : length before_seal ≡ 9
unfolding before_seal
length-before_seal = refl

pub length-behind_seal : length behind_seal ≡ 2
unfolding behind_seal
length-behind_seal = refl

-- what stands round a body and a seal has no line feed
lacks : (xs : List ℕ) → lacks_feed xs ≡ true → NoFeed xs
lacks xs none = All-from_get_or (λ byte. byte ≢ 10) xs 0 (λ k low. none_among xs none k)

NoFeed-before_body : NoFeed before_body
unfolding before_body
NoFeed-before_body = lacks before_body refl

NoFeed-before_seal : NoFeed before_seal
unfolding before_seal
NoFeed-before_seal = lacks before_seal refl

NoFeed-behind_seal : NoFeed behind_seal
unfolding behind_seal
NoFeed-behind_seal = lacks behind_seal refl

pub NoFeed-wrapped : (prior body : List ℕ) → NoFeed body → NoFeed (wrapped body (seal_on prior body))
NoFeed-wrapped prior body is =
    let P : ℕ → Type 0 = λ byte. byte ≢ 10 in
    let seal = seal_on prior body in
    All-append P before_body (body ++ (before_seal ++ (seal ++ behind_seal))) NoFeed-before_body
    (All-append P body (before_seal ++ (seal ++ behind_seal)) is
    (All-append P before_seal (seal ++ behind_seal) NoFeed-before_seal
    (All-append P seal behind_seal (NoFeed-seal_on prior body) NoFeed-behind_seal)))

pub length-wrapped : (body seal : List ℕ) → length seal ≡ 64 → length (wrapped body seal) ≡ length body + 83
length-wrapped body seal size =
    omega (
      arith,
      size,
      length-before_body,
      length-before_seal,
      length-behind_seal,
      length-append before_body (body ++ (before_seal ++ (seal ++ behind_seal))),
      length-append body (before_seal ++ (seal ++ behind_seal)),
      length-append before_seal (seal ++ behind_seal),
      length-append seal behind_seal,
    )

pub length-sealed_line : (prior body : List ℕ) → length (sealed_line prior body) ≡ length body + 84
length-sealed_line prior body =
    omega (arith, length-append (wrapped body (seal_on prior body)) (10 ∷ []), length-wrapped body (seal_on prior body) (length-seal_on prior body))

pub sealed_lines-push : (prior : List ℕ) (bodies : List (List ℕ)) (body : List ℕ)
    → sealed_lines prior (bodies ++ body ∷ []) ≡ sealed_lines prior bodies ++ sealed_line (last_seal prior bodies) body
sealed_lines-push prior [] body = append-nil (sealed_line prior body)
sealed_lines-push prior (first ∷ more) body =
    ap (λ (l : List ℕ). sealed_line prior first ++ l) (sealed_lines-push (seal_on prior first) more body)
    ∙ sym (append_assoc (sealed_line prior first) (sealed_lines (seal_on prior first) more) (sealed_line (last_seal (seal_on prior first) more) body))

pub last_seal-push : (prior : List ℕ) (bodies : List (List ℕ)) (body : List ℕ)
    → last_seal prior (bodies ++ body ∷ []) ≡ seal_on (last_seal prior bodies) body
last_seal-push prior [] body = refl
last_seal-push prior (first ∷ more) body = last_seal-push (seal_on prior first) more body

pub sealed_lines-append : (prior : List ℕ) (a b : List (List ℕ)) → sealed_lines prior (a ++ b) ≡ sealed_lines prior a ++ sealed_lines (last_seal prior a) b
sealed_lines-append prior [] b = refl
sealed_lines-append prior (first ∷ more) b =
    ap (λ (l : List ℕ). sealed_line prior first ++ l) (sealed_lines-append (seal_on prior first) more b)
    ∙ sym (append_assoc (sealed_line prior first) (sealed_lines (seal_on prior first) more) (sealed_lines (last_seal (seal_on prior first) more) b))

pub last_seal-append : (prior : List ℕ) (a b : List (List ℕ)) → last_seal prior (a ++ b) ≡ last_seal (last_seal prior a) b
last_seal-append prior [] b = refl
last_seal-append prior (first ∷ more) b = last_seal-append (seal_on prior first) more b

pub length-last_seal : (prior : List ℕ) (bodies : List (List ℕ)) → length prior ≡ 64 → length (last_seal prior bodies) ≡ 64
length-last_seal prior [] whole = whole
length-last_seal prior (body ∷ more) whole = length-last_seal (seal_on prior body) more (length-seal_on prior body)

-- five pieces, one put behind the other
pub joined : (l a b c d e : List ℕ) (la lb lc ld le : List ℕ) → l ≡ [] → la ≡ l ++ a → lb ≡ la ++ b → lc ≡ lb ++ c → ld ≡ lc ++ d
    → le ≡ ld ++ e → le ≡ a ++ (b ++ (c ++ (d ++ e)))
joined l a b c d e la lb lc ld le none ea eb ec ed ee =
    let parts : le ≡ (((a ++ b) ++ c) ++ d) ++ e =
    ee ∙ ap (λ (x : List ℕ). x ++ e) (ed ∙ ap (λ (x : List ℕ). x ++ d) (ec ∙ ap (λ (x : List ℕ). x ++ c)
    (eb ∙ ap (λ (x : List ℕ). x ++ b) (ea ∙ ap (λ (x : List ℕ). x ++ a) none)))) in
    let together : (((a ++ b) ++ c) ++ d) ++ e ≡ a ++ (b ++ (c ++ (d ++ e))) = simp append_assoc in
    parts ∙ together
