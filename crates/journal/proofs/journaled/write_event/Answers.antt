use Rattle.std.proofs.Common.{◌∙◌, sym, subst}
use Rattle.sealed_log.specs.Sealed.{IsBody}
use Rattle.journal.proofs.journaled.write_event.Goals as goal

pub append_both-requires-clause-first : goal.append_both-requires-clause-first
append_both-requires-clause-first g c = subst IsBody (sym (c.as_bytes.ensures.value ∙ c.as_str.ensures.value ∙ c.in-Ok.ensures.text)) c.in-Ok.ensures.entry.body
