use Rattle.std.proofs.Common.{◌∙◌, ap, arith, filter, subst, sym}
use Rattle.std.specs.List.{list_any}
use Rattle.seccomp_doc.specs.Meaning.{has_name}
use Rattle.widening.specs.Groups.{AreWithin, HasSameElements, entries_at, name_at, places_of}
use Rattle.widening.proofs.GroupFacts.{group_is, named_at, named_within}
use Rattle.widening.proofs.groups.Groups.new_group.Goals as goal

pub invariant_of-result : goal.invariant_of-result
invariant_of-result c =
    let name = name_at c.args.self.now.names.now c.args.at in
    let entries = c.args.self.now.new.now.entries in
    let places = c.as_slice.result.now in
    let grouped = c.args.self.now.new_grouped in
    let same : HasSameElements places (places_of name entries) =
    λ test. ap (list_any test) (group_is c.args.self.now.in_new.items c.args.at c.index.result.now places (omega (arith, c.requires, grouped.0)) c.index.ensures c.as_slice.ensures)
    ∙ grouped.1 c.args.at c.requires test in
    record { within = subst (λ es. AreWithin es places) (sym c.entries.ensures.entries) (named_within name entries places same) }

pub returns-clause-named : goal.returns-clause-named
returns-clause-named c =
    let name = name_at c.args.self.now.names.now c.args.at in
    let entries = c.args.self.now.new.now.entries in
    let places = c.as_slice.result.now in
    let grouped = c.args.self.now.new_grouped in
    let same : HasSameElements places (places_of name entries) =
    λ test. ap (list_any test) (group_is c.args.self.now.in_new.items c.args.at c.index.result.now places (omega (arith, c.requires, grouped.0)) c.index.ensures c.as_slice.ensures)
    ∙ grouped.1 c.args.at c.requires test in
    subst (λ es. HasSameElements (entries_at es places) (filter (has_name name) entries)) (sym c.entries.ensures.entries) (named_at name entries places same)
