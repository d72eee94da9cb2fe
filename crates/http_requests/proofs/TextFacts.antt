-- Why a token and a word are texts.
use Rattle.std.proofs.Common.{◌≡◌, ◌<◌, ◌&&◌, ℕ, zero, suc, Bool, true, false, List, [], ◌∷◌, IsAscii, IsUtf8, refl, arith}
use Rattle.std.specs.List.{list_all}
use Rattle.std.proofs.lemmas.Bool.Decides.{nat_tests}
use Rattle.std.proofs.lemmas.Str.{IsUtf8-from_ascii}
use Rattle.office_words.specs.Words.{is_token, is_token_byte, is_word, is_word_byte}

both : (a b : Bool) → (a && b) ≡ true → (a ≡ true) × (b ≡ true)
both true b e = (refl, e)
both false b e = cc

small_in_token : (b : ℕ) → is_token_byte b ≡ true → b < 128
small_in_token b e = grind (arith, nat_tests)

small_in_word : (b : ℕ) → is_word_byte b ≡ true → b < 128
small_in_word b e = grind (arith, nat_tests)

-- of bytes that pass a test which only bytes of ASCII pass
module _ (passes : ℕ → Bool) (small : (b : ℕ) → passes b ≡ true → b < 128) where
  ascii : (bytes : List ℕ) → list_all passes bytes ≡ true → IsAscii bytes
  ascii [] e i = omega arith
  ascii (b ∷ bytes) e zero = small b (both (passes b) (list_all passes bytes) e).0
  ascii (b ∷ bytes) e (suc i) = ascii bytes (both (passes b) (list_all passes bytes) e).1 i

  text_of : (sized : Bool) (bytes : List ℕ) → (sized && list_all passes bytes) ≡ true → IsUtf8 bytes
  text_of sized bytes e = IsUtf8-from_ascii bytes (ascii bytes (both sized _ e).1)

refuted : (b : Bool) → (b ≡ true → ⊥) → b ≡ false
refuted true none = absurd (none refl)
refuted false none = refl

-- bytes that are no text are no token
pub no_token : (bytes : List ℕ) → (IsUtf8 bytes → ⊥) → is_token bytes ≡ false
unfolding is_token
no_token bytes none = refuted (is_token bytes) (λ e. none (text_of is_token_byte small_in_token _ bytes e))

-- and no word
pub no_word : (bytes : List ℕ) → (IsUtf8 bytes → ⊥) → is_word bytes ≡ false
unfolding is_word
no_word bytes none = refuted (is_word bytes) (λ e. none (text_of is_word_byte small_in_word _ bytes e))
