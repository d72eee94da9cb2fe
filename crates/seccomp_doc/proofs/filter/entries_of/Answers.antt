use Rattle.std.proofs.Common.{◌≡◌, ◌∙◌, ap, sym, ◌++◌, ◌∷◌, [], arith}
use Rattle.std.proofs.lemmas.Grind.{common_steps}
use Rattle.std.proofs.lemmas.Result.{err_from_is_err_and}
use Rattle.seccomp_doc.proofs.FilterFacts.{entry_more, entry_told}
use Rattle.seccomp_doc.proofs.Lists.{taken_front}
use Rattle.seccomp_doc.proofs.filter.entries_of.Goals as goal

pub returns-in_err-entry-clause-err : goal.returns-in_err-entry-clause-err
returns-in_err-entry-clause-err c =
    let p = err_from_is_err_and c.from_residual-in_err-entry.result c.from_residual-in_err-entry.ensures.1 in
    let all : c.args.parts.items ≡ c.loop-part.yielded ++ (c.in-Some.part ∷ c.next.new.self.rest.items) =
    sym c.into_iter-part-iterator.ensures.into_iter_gives.0 ∙ taken_front c.into_iter-part-iterator.result c.loop-part.yielded c.loop-part.part-iterator c.loop-part.yielded_by
    ∙ ap (λ xs. c.loop-part.yielded ++ xs) c.in-Some.ensures.steps.0 in
    rw (p.1, p.2) (λ memory. entry_told c.args.parts.items c.loop-part.yielded c.in-Some.part c.next.new.self.rest.items _ all c.loop-part.invariant.3 (c.in_err-entry.ensures.answers memory))

pub loop-part-preserved : goal.loop-part-preserved
loop-part-preserved c =
    let pushed : c.push.new.self.items ≡ c.loop-part.entries.items ++ c.in_ok-entry.entry ∷ [] = grind (arith, common_steps) in
    let inv = c.loop-part.invariant in
    let more = entry_more c.loop-part.yielded c.in-Some.part c.loop-part.entries.items c.push.new.self.items c.in_ok-entry.entry inv.2 inv.3 inv.4 c.in_ok-entry.ensures.answers c.in_ok-entry.ensures.lawful pushed in
    (tt, tt, more.0, more.1, more.2)
