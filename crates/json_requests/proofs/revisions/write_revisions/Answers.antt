use Rattle.std.proofs.Common.{◌≡◌, ◌∷◌, ap, append-nil}
use Rattle.std.specs.Prelude.{codes}
use Rattle.json.specs.Token.{Token}
use Rattle.serde_json.specs.Data.{boolean, member, no_members}
use Rattle.json_tree.specs.Tokens.{open_tokens, tokens_of}
use Rattle.json_tree.proofs.Writing.{after_last}
use Rattle.json_requests.specs.Answers.{revisions_data}
use Rattle.json_requests.proofs.revisions.write_revisions.Goals as goal

pub returns : goal.returns
returns c =
    let listed = revisions_data c.args.revisions.now in
    let whole : open_tokens (member (codes "more") (boolean c.args.more) (member (codes "revisions") listed no_members))
    ≡ Token.key (codes "more") ∷ Token.boolean c.args.more ∷ Token.key (codes "revisions") ∷ tokens_of listed =
    ap (λ ts. Token.key (codes "more") ∷ Token.boolean c.args.more ∷ Token.key (codes "revisions") ∷ ts) (append-nil (tokens_of listed)) in
    rw whole (after_last _ _ _ c.in_ok-key.ensures (after_last _ _ _ c.in_ok-bool.ensures (after_last _ _ _ c.in_ok-key-2.ensures c.write_each.ensures)))
