use Rattle.std.proofs.Common.{◌∙◌, ◌++◌, ap, codes}
use Rattle.std.specs.Prelude.{string_bytes}
use Rattle.cap_sets.specs.Capability.{names_of, single}
use Rattle.profile_text.specs.Sets.{set_name}
use Rattle.review_sheet.specs.Layout.{ended, items_text}
use Rattle.review_sheet.proofs.Adding.{capability_words}
use Rattle.review_sheet.proofs.findings.push_capability.Goals as goal

pub returns : goal.returns
returns c =
    let start = string_bytes c.args.text.now in
    let one = string_bytes c.write.new.self in
    capability_words start one (string_bytes c.push_names_line.new.text) (set_name c.args.set) (items_text (names_of (single c.args.number)))
    (c.in_ok-write.ensures.bytes ∙ ap (λ set. start ++ (codes "capability " ++ (set ++ codes " "))) c.name-name.ensures)
    (c.in_ok-push_names_line.ensures ∙ ap (λ names. one ++ ended (items_text names)) c.capability.ensures)
