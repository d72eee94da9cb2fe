use Rattle.std.proofs.Common.{ℕ, List, ◌∙◌, ◌∷◌, ◌++◌, ap, codes, decimal, map}
use Rattle.std.specs.Prelude.{string_bytes}
use Rattle.seccomp_doc.specs.declared.action.Action.{Action}
use Rattle.review_sheet.specs.Filters.{action_text, arg_line}
use Rattle.review_sheet.specs.Layout.{ended, items_text, joined}
use Rattle.review_sheet.proofs.Adding.{line_then}
use Rattle.review_sheet.proofs.filter.push_entry.Goals as goal

pub returns : goal.returns
returns c =
    let e = c.args.entry.now in
    let start = string_bytes c.args.text.now in
    let first : Action → List ℕ = λ a. codes "entry " ++ decimal c.args.number ++ codes ": " ++ action_text a in
    let names = codes "  names: " ++ items_text e.names in
    let args = map arg_line e.args in
    let one = string_bytes c.push_numbered.new.text in
    let two = string_bytes c.push_list.new.text in
    let three = string_bytes c.push_args.new.text in
    line_then start one three (first e.action) (names ∷ args)
    (c.in_ok-push_numbered.ensures ∙ ap (λ a. start ++ ended (first a)) c.action.ensures)
    (line_then one two three names args
    (c.in_ok-push_list.ensures ∙ ap (λ ns. one ++ ended (codes "  names: " ++ items_text ns)) c.names-called.ensures.names)
    (c.in_ok-push_args.ensures ∙ ap (λ cs. two ++ joined (map arg_line cs)) c.args-compared.ensures.args))
