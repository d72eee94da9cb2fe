use Rattle.std.proofs.Common.{◌≡◌, ◌∙◌, false, rules, sym, tests, true}
use Rattle.widening.specs.Groups.{entries_at, name_at}
use Rattle.widening.specs.Ranks.{rules_with}
use Rattle.widening.proofs.GroupFacts.{grouped_keeps}
use Rattle.widening.proofs.RankFacts.{and_else, and_then}
use Rattle.widening.proofs.groups.keeps_to.Goals as goal

pub returns-clause-told : goal.returns-clause-told
returns-clause-told c =
    let xs = entries_at c.base_group-base_group.result.entries.now c.base_group-base_group.result.places.now in
    let zs = entries_at c.new_group-new_group.result.entries.now c.new_group-new_group.result.places.now in
    let b = rules_with c.default_action.result xs in
    let n = rules_with c.default_action-2.result zs in
    let passes : c.in_ok-new_entries_do.new_entries_do ≡ true = search (rules, tests) in
    c.in_ok-base_entries_do.ensures.told
    ∙ and_then _ _ _ (c.between-of_new.ensures b n c.ranks-base_ranks.ensures c.ranks-new_ranks.ensures) (sym c.in_ok-new_entries_do.ensures.told ∙ passes)
    ∙ grouped_keeps c.args.groups.now.base.now c.args.groups.now.new.now (name_at c.args.groups.now.names.now c.args.at) c.default_action.result c.default_action-2.result xs zs
    c.default_action.ensures c.default_action-2.ensures c.base_group-base_group.ensures.named c.new_group-new_group.ensures.named

pub returns-then-not-new_entries_do-clause-told : goal.returns-then-not-new_entries_do-clause-told
returns-then-not-new_entries_do-clause-told c =
    let xs = entries_at c.base_group-base_group.result.entries.now c.base_group-base_group.result.places.now in
    let zs = entries_at c.new_group-new_group.result.entries.now c.new_group-new_group.result.places.now in
    let b = rules_with c.default_action.result xs in
    let n = rules_with c.default_action-2.result zs in
    let fails : c.in_ok-new_entries_do.new_entries_do ≡ false = search (rules, tests) in
    sym fails ∙ c.in_ok-new_entries_do.ensures.told
    ∙ and_else _ _ _ (c.between-of_new.ensures b n c.ranks-base_ranks.ensures c.ranks-new_ranks.ensures) (sym c.in_ok-new_entries_do.ensures.told ∙ fails)
    ∙ grouped_keeps c.args.groups.now.base.now c.args.groups.now.new.now (name_at c.args.groups.now.names.now c.args.at) c.default_action.result c.default_action-2.result xs zs
    c.default_action.ensures c.default_action-2.ensures c.base_group-base_group.ensures.named c.new_group-new_group.ensures.named
