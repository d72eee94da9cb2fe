use Rattle.std.proofs.Common.{◌∙◌, sym}
use Rattle.std.specs.Prelude.{string_bytes}
use Rattle.cap_sets.specs.Capability.{names_of}
use Rattle.review_sheet.proofs.Adding.{list_begun}
use Rattle.review_sheet.proofs.layout.push_names.Goals as goal

pub returns : goal.returns
returns c =
    list_begun (string_bytes c.args.text.now) (string_bytes c.push_str-2.new.self) (string_bytes c.push_other_names.new.text) _ (names_of c.args.caps) _
    (sym c.names-names.ensures.rising ∙ c.in-Some.ensures.steps) c.in_ok-push_str.ensures.bytes c.in_ok-push_other_names.ensures
