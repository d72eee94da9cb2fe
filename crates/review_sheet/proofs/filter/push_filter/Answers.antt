use Rattle.std.proofs.Common.{◌∙◌, ◌∷◌, ◌++◌, ap, codes, decimal, length}
use Rattle.std.specs.Prelude.{string_bytes}
use Rattle.review_sheet.specs.Filters.{action_text, entries_lines}
use Rattle.review_sheet.specs.Layout.{ended, items_text, joined}
use Rattle.review_sheet.proofs.Adding.{line_then}
use Rattle.review_sheet.proofs.filter.push_filter.Goals as goal

pub returns : goal.returns
returns c =
    let f = c.args.filter.now in
    let default = codes "seccomp: " ++ action_text f.default in
    let architectures = codes "architectures: " ++ items_text f.architectures in
    let flags = codes "flags: " ++ items_text f.flags in
    let count = codes "entries: " ++ decimal (length f.entries) in
    let entries = entries_lines 1 f.entries in
    let one = string_bytes c.push_default.new.text in
    let two = string_bytes c.push_list.new.text in
    let three = string_bytes c.push_list-2.new.text in
    let four = string_bytes c.push_count.new.text in
    let five = string_bytes c.push_entries.new.text in
    line_then (string_bytes c.args.text.now) one five default (architectures ∷ flags ∷ count ∷ entries)
    (c.in_ok-push_default.ensures ∙ ap (λ a. string_bytes c.args.text.now ++ ended (codes "seccomp: " ++ action_text a)) c.default_action.ensures)
    (line_then one two five architectures (flags ∷ count ∷ entries)
    (c.in_ok-push_list.ensures ∙ ap (λ names. one ++ ended (codes "architectures: " ++ items_text names)) c.architectures.ensures)
    (line_then two three five flags (count ∷ entries)
    (c.in_ok-push_list-2.ensures ∙ ap (λ names. two ++ ended (codes "flags: " ++ items_text names)) c.flags.ensures)
    (line_then three four five count entries
    (c.in_ok-push_count.ensures ∙ ap (λ es. three ++ ended (codes "entries: " ++ decimal (length es))) c.entries-entries.ensures.entries)
    (c.in_ok-push_entries.ensures ∙ ap (λ es. four ++ joined (entries_lines 1 es)) c.entries-entries.ensures.entries))))
