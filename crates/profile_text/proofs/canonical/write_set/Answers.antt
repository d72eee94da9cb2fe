use Rattle.std.proofs.Common.{◌≡◌, [], ◌∷◌, ap, ◌∙◌, rules}
use Rattle.serde_json.specs.Data.{string}
use Rattle.cap_sets.specs.Capability.{names_of}
use Rattle.json_tree.proofs.Writing.{leaves_all, leaves_none, leaves_rest, list_tokens, after_last}
use Rattle.profile_text.proofs.PlainNames.{all_plain_texts, caps_plain, first_plain}
use Rattle.profile_text.proofs.canonical.write_set.Goals as goal

pub loop-name-init : goal.loop-name-init
loop-name-init c =
    let all : c.into_iter-name-iterator.result ≡ names_of c.args.caps = search rules in
    (leaves_all string (names_of c.args.caps) _ _ all, ap all_plain_texts all ∙ caps_plain c.args.caps)

pub plain_string-requires : goal.plain_string-requires
plain_string-requires c =
    let here : c.loop-name.name-iterator ≡ c.in-Some.name.now ∷ c.next.new.self = search rules in
    (first_plain c.loop-name.name-iterator c.next.new.self c.in-Some.name.now c.loop-name.invariant.1 here).0

pub loop-name-preserved : goal.loop-name-preserved
loop-name-preserved c =
    let here : c.loop-name.name-iterator ≡ c.in-Some.name.now ∷ c.next.new.self = search rules in (
      leaves_rest c.in-Some.name.now c.next.new.self c.loop-name.invariant.0 here c.in_ok-plain_string.ensures,
      (first_plain c.loop-name.name-iterator c.next.new.self c.in-Some.name.now c.loop-name.invariant.1 here).1,
    )

pub returns : goal.returns
returns c =
    let none : c.loop-name.name-iterator ≡ [] = search rules in
    rw (list_tokens string (names_of c.args.caps)) (after_last _ _ _ c.in_ok-key.ensures (after_last _ _ _ c.in_ok-begin_array.ensures
    (after_last _ _ _ (leaves_none c.loop-name.invariant.0 none) c.end_array.ensures)))
