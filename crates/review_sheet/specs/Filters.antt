-- The lines of a filter of system calls.
use Rattle.std.specs.Prelude.{ℕ, ◌+◌, List, [], ◌∷◌, ◌++◌, Option, Some, None, if◌then◌else◌, codes}
use Rattle.std.specs.Prelude.{decimal, length, map}
use Rattle.seccomp_doc.specs.declared.action.Action.{Action}
use Rattle.seccomp_doc.specs.declared.compare.Compare.{Compare}
use Rattle.seccomp_doc.specs.Action.{action_word_text, errno_of, word_of}
use Rattle.seccomp_doc.specs.Compare.{is_masked, op_text}
use Rattle.seccomp_doc.specs.Filter.{EntryValue, FilterValue}
use Rattle.review_sheet.specs.Layout.{items_text, then_number}

-- an action by its name, and by the number that it carries
abbrev pub action_text : Action → List ℕ
action_text action = action_word_text (word_of action) ++ then_number (errno_of action)

-- the second value of a comparison, where its operator has one
abbrev pub second_value : Compare → Option ℕ
second_value c = if is_masked c.op then Some c.value_two else None

abbrev pub arg_line : Compare → List ℕ
arg_line c =
    codes "  arg " ++ decimal c.index ++ codes ": " ++ op_text c.op
    ++ codes " " ++ decimal c.value ++ then_number (second_value c)

-- an entry with its number, its names, and its comparisons in the order of their list
abbrev pub entry_lines : ℕ → EntryValue → List (List ℕ)
entry_lines number e =
    (codes "entry " ++ decimal number ++ codes ": " ++ action_text e.action)
    ∷ (codes "  names: " ++ items_text e.names)
    ∷ map arg_line e.args

-- entries, the first of which has this number
abbrev pub entries_lines : ℕ → List EntryValue → List (List ℕ)
entries_lines number [] = []
entries_lines number (e ∷ entries) = entry_lines number e ++ entries_lines (number + 1) entries

abbrev pub filter_lines : FilterValue → List (List ℕ)
filter_lines f =
    (codes "seccomp: " ++ action_text f.default)
    ∷ (codes "architectures: " ++ items_text f.architectures)
    ∷ (codes "flags: " ++ items_text f.flags)
    ∷ (codes "entries: " ++ decimal (length f.entries))
    ∷ entries_lines 1 f.entries

-- the filter, where there is one
unfoldable pub seccomp_lines : Option FilterValue → List (List ℕ)
seccomp_lines None = codes "seccomp: none" ∷ []
seccomp_lines (Some f) = filter_lines f
