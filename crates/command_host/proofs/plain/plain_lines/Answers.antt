use Rattle.std.proofs.Common.{◌∙◌, flat_map, map-id, ap, sym}
use Rattle.std.proofs.lemmas.Iterator.{YieldsList-from_chars}
use Rattle.std.proofs.lemmas.Iterator.Consumers.{YieldsList-end}
use Rattle.command_host.specs.Plain.{plain_lines, plain_or_end}
use Rattle.command_host.proofs.plain.plain_lines.Goals as goal

pub returns : goal.returns
unfolding plain_lines
returns c =
    let end = YieldsList-end (YieldsList-from_chars c.args.text.now c.utf8.text cc) c.loop-c.yielded _ c.loop-c.yielded_by _ _ c.in-None.is c.next.ensures.steps in
    c.loop-c.invariant ∙ ap (flat_map plain_or_end) (sym (map-id c.loop-c.yielded) ∙ end.0)
