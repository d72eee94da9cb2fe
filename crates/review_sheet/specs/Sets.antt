-- The lines of the capability sets: those of a document, and what execve makes of them.
use Rattle.std.specs.Prelude.{ℕ, List, [], ◌∷◌, ◌++◌, codes}
use Rattle.cap_sets.specs.Capability.{names_of}
use Rattle.cap_sets.specs.declared.state.CapState.{CapState}
use Rattle.review_sheet.specs.Layout.{items_text, joined}
use Rattle.review_sheet.specs.AfterExecve.{after_plain, after_root}

-- a label, and the names of a set's members by rising number
abbrev pub set_line : List ℕ → ℕ → List ℕ
set_line label caps = label ++ codes ": " ++ items_text (names_of caps)

-- the five sets
abbrev pub state_lines : CapState → List (List ℕ)
state_lines state =
    set_line (codes "effective") state.effective
    ∷ set_line (codes "permitted") state.permitted
    ∷ set_line (codes "inheritable") state.inheritable
    ∷ set_line (codes "bounding") state.bounding
    ∷ set_line (codes "ambient") state.ambient
    ∷ []

-- the five sets alone, a line each
abbrev pub state_text : CapState → List ℕ
state_text state = joined (state_lines state)

-- three of the sets after execve of a plain file
abbrev pub plain_lines : CapState → List (List ℕ)
plain_lines after =
    set_line (codes "plain permitted") after.permitted
    ∷ set_line (codes "plain effective") after.effective
    ∷ set_line (codes "plain ambient") after.ambient
    ∷ []

-- three of the sets after execve by root
abbrev pub root_lines : CapState → List (List ℕ)
root_lines after =
    set_line (codes "root permitted") after.permitted
    ∷ set_line (codes "root effective") after.effective
    ∷ set_line (codes "root ambient") after.ambient
    ∷ []

-- the sets of a document, and then those after execve
unfoldable pub caps_lines : CapState → List (List ℕ)
caps_lines state =
    state_lines state ++ plain_lines (after_plain state).0 ++ root_lines (after_root state).0
