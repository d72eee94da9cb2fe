-- What follows where no check of an entry fails.
use Rattle.std.proofs.Common.{◌≡◌, ◌∙◌, ap, refl, ℕ, ◌<◌, List, [], ◌∷◌, Bool, true, false, not, ◌||◌, map, length, All, None, Some, option_map, cond}
use Rattle.std.specs.List.{list_any}
use Rattle.std.proofs.lemmas.List.Elements.{All-nil, All-cons}
use Rattle.seccomp_doc.specs.declared.action.Action.{Action}
use Rattle.seccomp_doc.specs.declared.compare.Compare.{Compare}
use Rattle.seccomp_doc.specs.declared.parts.ArgParts.{ArgParts}
use Rattle.seccomp_doc.specs.Word.{is_call_name}
use Rattle.seccomp_doc.specs.Lawful.{IsLawfulAction, IsLawfulCompare, IsLawfulEntry, has_repeat}
use Rattle.seccomp_doc.specs.Parts.{compare_of}
use Rattle.seccomp_doc.specs.Checks.{arg_checks, first_fault, is_no_call_name}
use Rattle.seccomp_doc.proofs.ArgFacts.{index_of}

pub both_false : (a b : Bool) → (a || b) ≡ false → (a ≡ false) × (b ≡ false)
both_false true b e = cc
both_false false b e = (refl, e)

pub not_false : (a : Bool) → not a ≡ false → a ≡ true
not_false true e = refl
not_false false e = cc

-- where no text fails the test, each passes
pub all_pass : (test : List ℕ → Bool) (texts : List (List ℕ)) → list_any (λ text. not (test text)) texts ≡ false → All (λ text. test text ≡ true) texts
all_pass test [] e = All-nil (λ text. test text ≡ true)
all_pass test (text ∷ texts) e =
    let parts = both_false (not (test text)) _ e in
    All-cons (λ text. test text ≡ true) text texts (not_false _ parts.0) (all_pass test texts parts.1)

-- a comparison keeps its index
indexes_kept : (args : List ArgParts) → map (λ c. c.index) (map compare_of args) ≡ map index_of args
indexes_kept [] = refl
indexes_kept (a ∷ args) = ap (λ ns. a.index ∷ ns) (indexes_kept args)

second_false : (a b : Bool) → {X : Type 0} → (x y : X) → option_map (λ (c : X × Bool). c.0) (cond a (Some (x, a)) (cond b (Some (y, b)) None)) ≡ None → b ≡ false
second_false true b x y e = cc
second_false false true x y e = cc
second_false false false x y e = refl

-- the entry that the checked names, action and comparisons make
pub lawful_entry : (texts names : List (List ℕ)) (action : Action) (parts : List ArgParts) (args : List Compare) →
    0 < length texts → (names ≡ texts) × (list_any is_no_call_name texts ≡ false) → IsLawfulAction action →
    (args ≡ map compare_of parts) × (first_fault (arg_checks parts) ≡ None) × All IsLawfulCompare args →
    IsLawfulEntry (record { names = names; action = action; args = args })
lawful_entry texts names action parts args some good small checked = record {
  named = rw good.0 some;
  names = rw good.0 (all_pass is_call_name texts good.1);
  action = small;
  args = checked.2;
  once = rw checked.0 (ap has_repeat (indexes_kept parts) ∙ second_false _ _ _ _ checked.1);
}
