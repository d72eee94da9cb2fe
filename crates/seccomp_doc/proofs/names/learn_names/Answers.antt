use Rattle.std.proofs.lemmas.Result.{err_from_is_err_and}
use Rattle.seccomp_doc.specs.Names.{action_under}
use Rattle.seccomp_doc.proofs.NameFacts.{names_all, names_more, names_told}
use Rattle.seccomp_doc.proofs.names.learn_names.Goals as goal

pub returns-in_err-learn_name-clause-answers : goal.returns-in_err-learn_name-clause-answers
returns-in_err-learn_name-clause-answers c = λ earlier knows.
    let p = err_from_is_err_and c.from_residual.result c.from_residual.ensures.1 in
    let known = c.loop-name.invariant earlier knows in
    rw (p.1, p.2) (λ memory.
    let told = c.in_err-learn_name.ensures.differs memory in
    rw told.0 (names_told earlier c.args.entry.now c.names-name-items.result.now c.action-action.result c.loop-name.name-index c.name-item.result _
    c.names-name-items.ensures.names c.action-action.ensures c.loop-name-test.true c.name-item.is (known.0 c.name-item.result) known.1 told.1))

pub loop-name-preserved : goal.loop-name-preserved
loop-name-preserved c = λ earlier knows.
    let known = c.loop-name.invariant earlier knows in
    names_more earlier c.args.entry.now.args c.names-name-items.result.now c.action-action.result c.loop-name.name-index c.name-item.result
    (action_under c.loop-name.actions) (action_under c.learn_name.new.actions)
    c.loop-name-test.true c.name-item.is known.0 known.1 c.in_ok-learn_name.ensures.agrees c.in_ok-learn_name.ensures.learned

pub returns-clause-knows : goal.returns-clause-knows
returns-clause-knows c = λ earlier knows.
    names_all earlier c.args.entry.now c.names-name-items.result.now c.action-action.result c.loop-name.name-index (action_under c.loop-name.actions)
    c.names-name-items.ensures.names c.action-action.ensures c.loop-name-test.false (c.loop-name.invariant earlier knows).0
