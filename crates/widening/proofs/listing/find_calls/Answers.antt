use Rattle.std.proofs.Common.{◌≡◌, ◌∙◌, ◌++◌, ap, map, filter, subst}
use Rattle.std.specs.Prelude.{OnOk}
use Rattle.std.specs.List.{list_any}
use Rattle.seccomp_doc.specs.Checks.{is_no_call_name}
use Rattle.widening.specs.declared.finding.Finding.TheVariants.{Call}
use Rattle.widening.specs.Calls.{entry_names, is_permitted_more}
use Rattle.widening.specs.Texts.{in_byte_order, texts_in}
use Rattle.widening.proofs.NameFacts.{all_named}
use Rattle.widening.proofs.listing.find_calls.Goals as goal

pub returns : goal.returns
returns c =
    let groups = c.in_ok-groups.groups in
    let names = texts_in groups.names.now in
    subst (λ added. OnOk c.find_named.result (c.find_named.new.found.items ≡ c.args.found.now.items ++ added))
    (ap (λ b. map Call (filter (is_permitted_more b groups.new.now) names)) c.in_ok-groups.ensures.1
    ∙ ap (λ n. map Call (filter (is_permitted_more c.args.base.now n) names)) c.in_ok-groups.ensures.2
    ∙ ap (λ ns. map Call (filter (is_permitted_more c.args.base.now c.args.new.now) ns))
    (ap texts_in (c.in_ok-groups.ensures.0 ∙ c.as_slice.ensures.value) ∙ c.in_ok-names.ensures.names
    ∙ ap (λ es. in_byte_order (entry_names es ++ entry_names c.entries-2.result.now)) c.entries.ensures.entries
    ∙ ap (λ es. in_byte_order (entry_names c.args.base.now.entries ++ entry_names es)) c.entries-2.ensures.entries))
    c.find_named.ensures

pub find_named-requires-clause-names : goal.find_named-requires-clause-names
find_named-requires-clause-names c =
    ap (list_any is_no_call_name) (ap texts_in (c.in_ok-groups.ensures.0 ∙ c.as_slice.ensures.value) ∙ c.in_ok-names.ensures.names
    ∙ ap (λ es. in_byte_order (entry_names es ++ entry_names c.entries-2.result.now)) c.entries.ensures.entries
    ∙ ap (λ es. in_byte_order (entry_names c.args.base.now.entries ++ entry_names es)) c.entries-2.ensures.entries)
    ∙ all_named c.args.base.now.entries c.args.new.now.entries c.entries.ensures.lawful.entries c.entries-2.ensures.lawful.entries
