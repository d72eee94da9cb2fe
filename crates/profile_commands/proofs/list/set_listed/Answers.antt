use Rattle.std.proofs.Common.{◌∙◌, sym, arith, rules}
use Rattle.std.proofs.lemmas.Str.Pattern.{split_once_first}
use Rattle.profile_commands.proofs.ListFacts.{last_named, step_named, step_unknown}
use Rattle.profile_commands.proofs.list.set_listed.Goals as goal

pub names-preserved : goal.names-preserved
names-preserved c =
    let l = c.names in
    let cut = rw c.in-Some.is at (split_once_first 44 l.rest.now c.split_once.result c.split_once.ensures.cases (omega arith)) in
    (step_named l.caps c.in-Some-with_named.more l.rest.now c.in-Some.name.now c.in-Some.others.now cut.0 cut.1 cut.2 c.in-Some-with_named.ensures ∙ l.invariant.0, search rules)

pub returns-in-None : goal.returns-in-None
returns-in-None c =
    let l = c.names in
    let cut = rw c.in-Some.is at (split_once_first 44 l.rest.now c.split_once.result c.split_once.ensures.cases (omega arith)) in
    sym (step_unknown l.caps l.rest.now c.in-Some.name.now cut.0 cut.1 c.in-None.ensures) ∙ l.invariant.0

pub returns : goal.returns
returns c =
    let l = c.names in
    let none = rw c.in_default.is at (split_once_first 44 l.rest.now c.split_once.result c.split_once.ensures.cases (omega arith)) in
    c.with_named-2.ensures ∙ sym (last_named l.caps l.rest.now none) ∙ l.invariant.0
