use Rattle.std.proofs.Common.{◌<◌, length, arith}
use Rattle.std.proofs.lemmas.Grind.{common_steps}
use Rattle.seccomp_doc.proofs.EntryFacts.{lawful_entry}
use Rattle.seccomp_doc.proofs.entry.Entry.new.Goals as goal

pub invariant_of-result : goal.invariant_of-result
invariant_of-result c =
    let some : 0 < length c.parts.inside.names.items = grind (arith, common_steps) in
    lawful_entry _ _ _ _ _ some c.in_ok-names.ensures.ok c.in_ok-action.ensures.lawful c.in_ok-args.ensures.ok

pub returns-clause-lawful : goal.returns-clause-lawful
returns-clause-lawful c =
    let some : 0 < length c.parts.inside.names.items = grind (arith, common_steps) in
    lawful_entry _ _ _ _ _ some c.in_ok-names.ensures.ok c.in_ok-action.ensures.lawful c.in_ok-args.ensures.ok
