use Rattle.std.proofs.Common.{◌∙◌, Err, ap, inr}
use Rattle.profile_text.proofs.ReadFacts.{too_long, value_is, value_none}
use Rattle.profile_text.proofs.document.read_stored.Goals as goal

pub returns-then-bytes-gt-MOST_BYTES-clause-reading : goal.returns-then-bytes-gt-MOST_BYTES-clause-reading
returns-then-bytes-gt-MOST_BYTES-clause-reading c = inr (too_long c.args.bytes.now c.if-bytes-gt-MOST_BYTES.true)

pub returns-in-Ok-clause-reading : goal.returns-in-Ok-clause-reading
returns-in-Ok-clause-reading c = rw (value_is c.args.bytes.now _ c.if-bytes-gt-MOST_BYTES.false c.in-Ok.ensures.ok.0 c.in-Ok.ensures.ok.1) c.profile_of.ensures

pub returns-in-Err-NotJson-clause-reading : goal.returns-in-Err-NotJson-clause-reading
returns-in-Err-NotJson-clause-reading c = inr (value_none c.args.bytes.now c.if-bytes-gt-MOST_BYTES.false (λ text. c.from_slice.ensures.not_json (c.in-Err-NotJson.is ∙ ap Err c.in-Err-NotJson.field-0-is) text))
