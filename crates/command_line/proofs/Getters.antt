-- What the getters of clap say of the rows of a parse.
use Rattle.std.proofs.Common.{◌≡◌, ◌∙◌, Bool, true, false, List, map, Option, Some, None, option_map, refl, sym, ap, subst}
use Rattle.std.specs.Prelude.{IfNone, codes}
use Rattle.std.specs.Borrow.{Bor}
use Rattle.clap.specs.Words.{Text, all_of, first_of, first_value, matched_of, one_of, one_text, raw_values, rows_of}
use Rattle.clap.specs.Words.{is_simple, is_simple_and_free}
use Rattle.clap.proofs.WalkLemmas.{first_value-rows, one_text-rows, raw_values-rows}
use Rattle.clap.specs.declared.parser.matches.Found.{Found}
use Rattle.command_line.specs.Commands.{office_app}
use Rattle.command_line.specs.Meaning.{IsFlag}

-- `get_str`
pub text_is : (f : Found) (id : Text) (r : Option Text) → r ≡ first_value f id → first_of id (rows_of f) ≡ r
text_is f id r e = sym (e ∙ first_value-rows f id)

-- `get_strs`
pub texts_are : (f : Found) (id : Text) (r : Option (Bor (List (Bor Text))))
    → option_map (λ s. map (λ v. v.now) s.now) r ≡ option_map raw_values (matched_of f id)
    → all_of id (rows_of f) ≡ option_map (λ s. map (λ v. v.now) s.now) r
texts_are f id r e = sym (e ∙ raw_values-rows f id)

-- `get_flag`
flag_at : (o : Option Text) (b : Bool) → (o ≡ None → b ≡ false) → (o ≡ Some (codes "true") → b ≡ true)
    → (o ≡ Some (codes "false") → b ≡ false) → IsFlag o b
flag_at None b none set unset = none refl
flag_at (Some t) b none set unset = (λ e. set (ap Some e), λ e. unset (ap Some e))

pub flag_is : (f : Found) (id : Text) (b : Bool) → (one_text f id ≡ None → b ≡ false)
    → (one_text f id ≡ Some (codes "true") → b ≡ true) → (one_text f id ≡ Some (codes "false") → b ≡ false)
    → IsFlag (one_of id (rows_of f)) b
flag_is f id b none set unset =
    subst (λ (o : Option Text). IsFlag o b) (one_text-rows f id) (flag_at (one_text f id) b none set unset)

-- the office's command is one whose matches clap states
pub office_simple : is_simple office_app ≡ true
unfolding office_app
office_simple = refl

-- and whose refusals it states
pub office_free : is_simple_and_free office_app ≡ true
unfolding office_app
office_free = refl

-- what holds whenever a getter gave nothing
pub lacks : {X : Type 0} (r : Option X) (P : Type 0) → P → IfNone r P
lacks None P p = p
lacks (Some x) P p = tt
