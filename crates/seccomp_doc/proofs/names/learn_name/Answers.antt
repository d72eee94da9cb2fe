use Rattle.std.proofs.Common.{◌≡◌, ◌∙◌, ap, sym, subst, Some, cond, bytes_eq}
use Rattle.std.proofs.lemmas.Map.Text.{btree_map_updates_str}
use Rattle.seccomp_doc.specs.declared.fault.FilterFault.TheVariants.{TwoActions}
use Rattle.seccomp_doc.specs.Names.{DiffersFrom, action_under}
use Rattle.seccomp_doc.proofs.names.learn_name.Goals as goal

pub returns-then-is_same-clause-learned : goal.returns-then-is_same-clause-learned
returns-then-is_same-clause-learned c = λ q.
    btree_map_updates_str c.as_str.result.now c.args.actions.now c.insert.new.self _ c.in-Ok-Some.ensures.updates q
    ∙ ap (λ name. cond (bytes_eq name q) (Some c.args.action) (action_under c.args.actions.now q)) c.as_str.ensures.text

pub returns-in_ok-clone-in-Ok-Some-clause-differs : goal.returns-in_ok-clone-in-Ok-Some-clause-differs
returns-in_ok-clone-in-Ok-Some-clause-differs c =
    let here : Some c.in-Ok-Some.known ≡ action_under c.args.actions.now c.args.name.now =
    sym c.in-Ok-Some.field-0-is ∙ c.in-Ok-Some.ensures.old ∙ ap (action_under c.args.actions.now) c.as_str.ensures.text in
    let cloned = c.in_ok-clone-in-Ok-Some.ensures.cases in
    λ _. (ap (λ name. TwoActions name) (sym cloned.3 ∙ cloned.4.0 ∙ cloned.2), subst (λ o. DiffersFrom o c.args.action) here (sym c.if-is_same.ensures))

pub returns-in-Ok-None-clause-learned : goal.returns-in-Ok-None-clause-learned
returns-in-Ok-None-clause-learned c = λ q.
    btree_map_updates_str c.as_str.result.now c.args.actions.now c.insert.new.self _ c.in-Ok-None.ensures.updates q
    ∙ ap (λ name. cond (bytes_eq name q) (Some c.args.action) (action_under c.args.actions.now q)) c.as_str.ensures.text
