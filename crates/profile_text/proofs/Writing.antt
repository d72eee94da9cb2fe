-- Texts of profiles that are written token by token.
use Rattle.std.proofs.Common.{◌≡◌, ◌≢◌, ◌∙◌, ℕ, List, [], ◌∷◌, ◌++◌, length, map, Option, Some, None, refl, sym, ap, arith, eqb-true, Bool, true, false}
use Rattle.std.specs.Prelude.{◌==◌}
use Rattle.json.specs.Print.{print}
use Rattle.json.specs.Token.{Token}
use Rattle.json.specs.Tree.{members_tokens}
use Rattle.serde_json.proofs.Texts.{print-outline}
use Rattle.serde_json.specs.Data.{Data, Members}
use Rattle.serde_json.specs.Written.{members_outline}
use Rattle.json_tree.specs.Tokens.{Appends, member_tokens, tokens_of}
use Rattle.json_tree.proofs.Writing.{all_tokens, list_tokens}
use Rattle.profile_text.specs.declared.profile.Profile.{Profile}
use Rattle.profile_text.specs.Text.{member_if, profile_data, some_list, text_of}

-- ---- members of an object

pub member_first : (name : List ℕ) (o : Option Data) (rest : Members) → members_tokens (members_outline (member_if name o rest)) ≡ member_tokens name o ++ members_tokens (members_outline rest)
member_first name None rest = refl
member_first name (Some d) rest = refl

-- a member that is a list, unless it is empty
pub some_tokens : {X : Type 0} (name : List ℕ) (shown : X → Data) (xs : List X) → length xs ≢ 0
    → member_tokens name (some_list (map shown xs)) ≡ Token.key name ∷ Token.begin_array ∷ (all_tokens shown xs ++ Token.end_array ∷ [])
some_tokens name shown [] some = absurd (some refl)
some_tokens name shown (x ∷ xs) some = ap (λ ts. Token.key name ∷ ts) (list_tokens shown (x ∷ xs))

pub none_tokens : {X : Type 0} (name : List ℕ) (shown : X → Data) (xs : List X) {b : Bool} → b ≡ (length xs == 0) → b ≡ true → member_tokens name (some_list (map shown xs)) ≡ []
none_tokens name shown [] is is_true = refl
none_tokens name shown (x ∷ xs) is is_true = let none = eqb-true (length (x ∷ xs)) 0 (sym is ∙ is_true) in absurd (omega (arith, none))

-- what is not empty has a length
pub not_empty : {X : Type 0} (xs : List X) {b : Bool} → b ≡ (length xs == 0) → b ≡ false → length xs ≢ 0
not_empty [] is not_b = absurd (cc)
not_empty (x ∷ xs) is not_b = λ none. absurd (omega arith)

-- ---- the whole text

pub text_is : (p : Profile) {a b : List Token} {text : List ℕ} → a ≡ [] → Appends a b (tokens_of (profile_data p)) → text ≡ print b → text ≡ text_of p
unfolding text_of
text_is p start written is = is ∙ ap print (written.tokens ∙ ap (λ ts. ts ++ tokens_of (profile_data p)) start) ∙ print-outline (profile_data p)
