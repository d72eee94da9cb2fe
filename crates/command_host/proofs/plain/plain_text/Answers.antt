use Rattle.std.proofs.Common.{◌∙◌, flat_map, map-id, ap, subst, sym}
use Rattle.std.proofs.lemmas.Iterator.{YieldsList-from_chars}
use Rattle.std.proofs.lemmas.Iterator.Consumers.{YieldsList-end}
use Rattle.command_host.specs.Plain.{plain, plain_char, IsPlain}
use Rattle.command_host.proofs.PlainFacts.{is_plain}
use Rattle.command_host.proofs.plain.plain_text.Goals as goal

pub returns-clause-bytes : goal.returns-clause-bytes
unfolding plain
returns-clause-bytes c =
    let end = YieldsList-end (YieldsList-from_chars c.args.text.now c.utf8.text cc) c.loop-c.yielded _ c.loop-c.yielded_by _ _ c.in-None.is c.next.ensures.steps in
    c.loop-c.invariant ∙ ap (flat_map plain_char) (sym (map-id c.loop-c.yielded) ∙ end.0)

pub returns-clause-plain : goal.returns-clause-plain
returns-clause-plain c = subst IsPlain (sym (returns-clause-bytes c)) (is_plain c.args.text.now)
