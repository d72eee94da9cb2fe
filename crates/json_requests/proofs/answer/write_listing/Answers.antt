use Rattle.std.proofs.Common.{◌≡◌, ◌∙◌, [], ◌∷◌, ◌++◌, refl, ap, append-nil}
use Rattle.std.specs.Prelude.{codes}
use Rattle.json.specs.Token.{Token}
use Rattle.serde_json.specs.Data.{member, no_members}
use Rattle.json_tree.specs.Tokens.{open_tokens, tokens_of}
use Rattle.json_tree.proofs.Writing.{after_last, all_tokens, item_written, items_written, leaves_all, list_tokens}
use Rattle.json_requests.specs.Answers.{listed_data, listing_data}
use Rattle.json_requests.proofs.answer.write_listing.Goals as goal

pub loop-listed-init : goal.loop-listed-init
loop-listed-init c = leaves_all listed_data c.args.profiles.now _ _ refl

pub loop-listed-preserved : goal.loop-listed-preserved
loop-listed-preserved c = item_written c.args.profiles.now c.loop-listed.listed-index c.listed-item.result c.listed-item.result c.loop-listed-test.true c.listed-item.is c.loop-listed.invariant c.in_ok-write_listed.ensures

pub returns : goal.returns
returns c =
    let ps = c.args.profiles.now in
    let whole : open_tokens (member (codes "profiles") (listing_data ps) no_members) ≡ Token.key (codes "profiles") ∷ Token.begin_array ∷ (all_tokens listed_data ps ++ Token.end_array ∷ []) =
    ap (λ ts. Token.key (codes "profiles") ∷ ts) (append-nil (tokens_of (listing_data ps)) ∙ list_tokens listed_data ps) in
    rw whole (after_last _ _ _ c.in_ok-key.ensures (after_last _ _ _ c.in_ok-begin_array.ensures
    (after_last _ _ _ (items_written ps c.loop-listed.listed-index c.loop-listed-test.false c.loop-listed.invariant) c.end_array.ensures)))
