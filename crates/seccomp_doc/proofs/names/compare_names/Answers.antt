use Rattle.std.proofs.Common.{◌≡◌, ◌∙◌, refl, subst, sym, ap, take, ◌+◌, ◌++◌, ◌∷◌, []}
use Rattle.std.proofs.lemmas.List.{take_more}
use Rattle.std.proofs.lemmas.Result.{err_from_is_err_and}
use Rattle.seccomp_doc.specs.Names.{Knows, action_under}
use Rattle.seccomp_doc.proofs.NameFacts.{entries_all, entries_more, entries_told, one_action}
use Rattle.seccomp_doc.proofs.names.compare_names.Goals as goal

pub returns-in_err-learn_names-clause-answers : goal.returns-in_err-learn_names-clause-answers
returns-in_err-learn_names-clause-answers c =
    let p = err_from_is_err_and c.from_residual.result c.from_residual.ensures.1 in
    let i = c.loop-entry.entry-index in
    rw (p.1, p.2) (λ memory.
    c.loop-entry.invariant.1 ∙ entries_told c.args.entries.now i c.entry-item.result _ c.loop-entry-test.true c.entry-item.is
    (c.in_err-learn_names.ensures.answers (take i c.args.entries.now) c.loop-entry.invariant.0 memory))

pub loop-entry-preserved : goal.loop-entry-preserved
loop-entry-preserved c =
    let i = c.loop-entry.entry-index in
    let es = c.args.entries.now in
    let seen : take i es ++ c.entry-item.result ∷ [] ≡ take (i + 1) es = sym (take_more es i c.entry-item.result c.loop-entry-test.true ∙ ap (λ x. take i es ++ x ∷ []) (sym c.entry-item.is)) in (
      subst (λ xs. Knows xs c.learn_names.new.actions) seen (c.in_ok-learn_names.ensures.knows (take i es) c.loop-entry.invariant.0),
      c.loop-entry.invariant.1 ∙ entries_more es i c.entry-item.result c.loop-entry-test.true c.entry-item.is
          (c.in_ok-learn_names.ensures.answers (take i es) c.loop-entry.invariant.0).0,
    )

pub returns-clause-answers : goal.returns-clause-answers
returns-clause-answers c = (c.loop-entry.invariant.1 ∙ entries_all c.args.entries.now c.loop-entry.entry-index c.loop-entry-test.false, refl)

pub returns-clause-one_action : goal.returns-clause-one_action
returns-clause-one_action c = one_action c.args.entries.now c.loop-entry.entry-index (action_under c.loop-entry.actions) c.loop-entry-test.false c.loop-entry.invariant.0
