-- Lines that are written token by token.
use Rattle.std.proofs.Common.{◌≡◌, ◌∙◌, ℕ, List, ◌∷◌, ◌++◌, Option, Some, None, option_map, refl, ap, append-nil}
use Rattle.std.specs.Prelude.{codes}
use Rattle.hex.specs.Hex.{encode_lower}
use Rattle.json.specs.Token.{Token}
use Rattle.json.specs.Tree.{members_tokens}
use Rattle.serde_json.specs.Data.{Members, member, no_members, string}
use Rattle.serde_json.specs.Written.{members_outline}
use Rattle.json_tree.specs.Tokens.{Appends, member_tokens, open_tokens, tokens_of}
use Rattle.json_requests.specs.Answers.{roles_data}
use Rattle.journal.specs.Lines.{deed_members, kind_members}

-- ---- members that other members follow

abbrev rest_tokens : Members → List Token
rest_tokens ms = members_tokens (members_outline ms)

pub kind_first : (word : List ℕ) (line : Option ℕ) (rest : Members) → rest_tokens (kind_members word line rest) ≡ open_tokens (kind_members word line no_members) ++ rest_tokens rest
kind_first word None rest = refl
kind_first word (Some n) rest = refl

pub deed_first : (caller : List ℕ) (digest : Option (List ℕ)) (word : List ℕ) (line : Option ℕ) (rest : Members)
    → rest_tokens (deed_members caller digest word line rest) ≡ open_tokens (deed_members caller digest word line no_members) ++ rest_tokens rest
deed_first caller None word None rest = refl
deed_first caller None word (Some n) rest = refl
deed_first caller (Some digest) word None rest = refl
deed_first caller (Some digest) word (Some n) rest = refl

-- who did what is a caller, a digest where there is one, and a word
pub deed_tokens : {A : Type 0} (f : A → List ℕ) (caller : List ℕ) (digest : Option A) (word : List ℕ) (line : Option ℕ)
    → open_tokens (deed_members caller (option_map f digest) word line no_members)
    ≡ Token.key (codes "by") ∷ Token.string caller ∷ (member_tokens (codes "digest") (option_map (λ d. string (encode_lower (f d))) digest) ++ open_tokens (kind_members word line no_members))
deed_tokens f caller None word line = refl
deed_tokens f caller (Some digest) word line = refl

-- the roles of a set, with nothing behind them
pub roles_alone : (roles : ℕ) {a b : List Token} → Appends a b (open_tokens (member (codes "roles") (roles_data roles) no_members))
    → Appends a b (member_tokens (codes "roles") (Some (roles_data roles)))
roles_alone roles {a} more = record { tokens = more.tokens ∙ ap (λ ts. a ++ Token.key (codes "roles") ∷ ts) (append-nil (tokens_of (roles_data roles))) }
