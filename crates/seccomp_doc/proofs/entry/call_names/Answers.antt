use Rattle.std.proofs.Common.{◌≡◌, ◌∙◌, ap, refl, sym, true, false, not, ◌∷◌, ◌++◌, None, Some, cond, ℕ, List, Bool}
use Rattle.seccomp_doc.specs.Checks.{is_no_call_name}
use Rattle.seccomp_doc.proofs.Lists.{taken_front, list_any_among}
use Rattle.seccomp_doc.proofs.entry.call_names.Goals as goal

none_then_not : (b : Bool) (text : List ℕ) → None ≡ cond b (Some text) None → not b ≡ true
none_then_not true text e = cc
none_then_not false text e = refl

pub returns-in_default-clause-err : goal.returns-in_default-clause-err
returns-in_default-clause-err c =
    let bad : is_no_call_name c.in-Some.text ≡ true = none_then_not _ _ c.in_default.ensures in
    let all : c.args.texts.items ≡ c.loop-text.yielded ++ (c.in-Some.text ∷ c.next.new.self.rest.items) =
    sym c.into_iter-text-iterator.ensures.into_iter_gives.0 ∙ taken_front c.into_iter-text-iterator.result c.loop-text.yielded c.loop-text.text-iterator c.loop-text.yielded_by ∙ ap (λ xs. c.loop-text.yielded ++ xs) c.in-Some.ensures.steps.0 in
    λ _. (refl, rw all (list_any_among is_no_call_name c.loop-text.yielded c.in-Some.text c.next.new.self.rest.items bad))
