-- The text of a value is that of its tokens.
use Rattle.std.proofs.Common.{◌≡◌, ◌∙◌, ℕ, List, [], ◌++◌, ap}
use Rattle.json.specs.Print.{print}
use Rattle.json.specs.Token.{Token}
use Rattle.serde_json.proofs.Texts.{print-outline}
use Rattle.serde_json.specs.Data.{Data}
use Rattle.serde_json.specs.Written.{compact_text}
use Rattle.json_tree.specs.Tokens.{Appends, tokens_of}

-- a text that was written from its first token on
pub text_is : (d : Data) {a b : List Token} {text : List ℕ} → a ≡ [] → Appends a b (tokens_of d) → text ≡ print b → text ≡ compact_text d
text_is d start written is = is ∙ ap print (written.tokens ∙ ap (λ ts. ts ++ tokens_of d) start) ∙ print-outline d
