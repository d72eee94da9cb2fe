-- The names that the entries of two filters have are names of calls.
use Rattle.std.proofs.Common.{◌≡◌, ◌∙◌, ap, refl, sym, ℕ, zero, suc, ◌<◌, List, [], ◌∷◌, ◌++◌, Bool, true, false, not, ◌||◌, length, arith}
use Rattle.std.specs.Prelude.{All}
use Rattle.std.specs.Borrow.{Bor}
use Rattle.std.specs.List.{list_any}
use Rattle.std.proofs.lemmas.Bool.{or_from, or_parts}
use Rattle.std.proofs.lemmas.List.Elements.{All-head, All-tail}
use Rattle.std.proofs.lemmas.List.Folds.{list_any-append, list_any_none}
use Rattle.seccomp_doc.specs.Checks.{is_no_call_name}
use Rattle.seccomp_doc.specs.Filter.{EntryValue}
use Rattle.seccomp_doc.specs.Lawful.{IsLawfulEntry}
use Rattle.seccomp_doc.specs.Word.{is_call_name}
use Rattle.widening.specs.Calls.{entry_names}
use Rattle.widening.specs.Groups.{name_at}
use Rattle.widening.specs.Texts.{in_byte_order, texts_in}
use Rattle.widening.proofs.TextFacts.{list_any-in_byte_order}

is_not : (b : Bool) → not b ≡ false → b ≡ true
is_not true e = refl
is_not false e = cc

-- the name at a place is one, where none is none
pub named_at : (names : List (Bor (List ℕ))) (at : ℕ) → at < length names → list_any is_no_call_name (texts_in names) ≡ false → is_call_name (name_at names at) ≡ true
named_at [] at within none = absurd (omega (arith, within))
named_at (name ∷ names) zero within none = is_not (is_call_name name.now) (or_parts (is_no_call_name name.now) (list_any is_no_call_name (texts_in names)) none).0
named_at (name ∷ names) (suc at) within none =
    named_at names at (omega (arith, within)) (or_parts (is_no_call_name name.now) (list_any is_no_call_name (texts_in names)) none).1

-- no name of a lawful entry is none
names_of_entry : (e : EntryValue) → IsLawfulEntry e → list_any is_no_call_name e.names ≡ false
names_of_entry e lawful = list_any_none is_no_call_name e.names (λ k d within. ap not (lawful.names k d within))

names_of_entries : (es : List EntryValue) → All IsLawfulEntry es → list_any is_no_call_name (entry_names es) ≡ false
names_of_entries [] lawful = refl
names_of_entries (e ∷ es) lawful =
    list_any-append is_no_call_name e.names (entry_names es)
    ∙ or_from _ _ (names_of_entry e (All-head IsLawfulEntry e es lawful)) (names_of_entries es (All-tail IsLawfulEntry e es lawful))

pub all_named : (base new : List EntryValue) → All IsLawfulEntry base → All IsLawfulEntry new → list_any is_no_call_name (in_byte_order (entry_names base ++ entry_names new)) ≡ false
all_named base new of_base of_new =
    list_any-in_byte_order is_no_call_name (entry_names base ++ entry_names new)
    ∙ list_any-append is_no_call_name (entry_names base) (entry_names new)
    ∙ or_from _ _ (names_of_entries base of_base) (names_of_entries new of_new)
