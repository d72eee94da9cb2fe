use Rattle.json_tree.proofs.Writing.{after_last}
use Rattle.journal.proofs.TextFacts.{deed_tokens}
use Rattle.journal.proofs.members.write_deed.Goals as goal

pub returns : goal.returns
returns c =
    rw (deed_tokens (λ d. d.now) c.args.caller.now c.args.digest c.args.word.now c.args.line)
    (after_last _ _ _ (rw c.as_str.ensures.text at c.in_ok-write_text.ensures) (after_last _ _ _ c.in_ok-write_digest_if.ensures c.write_kind.ensures))
