use Rattle.std.proofs.Common.{◌≡◌, ◌∙◌, ap, [], ◌∷◌, ◌++◌, ◌+◌, cond, false, not, rules, subst, sym, take, true}
use Rattle.std.specs.Prelude.{filter}
use Rattle.std.proofs.lemmas.List.{append-nil, take_more}
use Rattle.std.proofs.lemmas.List.Elements.{filter-append}
use Rattle.seccomp_doc.specs.Filter.{EntryValue}
use Rattle.seccomp_doc.specs.Names.{Knows, has_action}
use Rattle.seccomp_doc.proofs.names.learn_rarer.Goals as goal
use Rattle.seccomp_doc.proofs.names.learn_rarer.Goals.{then-not-is_same+in_ok-learn_names, else-not-is_same}

pub loop-entry-preserved : goal.loop-entry-preserved
loop-entry-preserved c =
    let i = c.loop-entry.entry-index in
    let es = c.args.entries.now in
    let e = c.entry-item.result in
    let rarer = λ (x : EntryValue). not (has_action c.args.common x) in
    let seen : filter rarer (take (i + 1) es) ≡ filter rarer (take i es) ++ cond (rarer e) (e ∷ []) [] =
    ap (filter rarer) (take_more es i e c.loop-entry-test.true ∙ ap (λ x. take i es ++ x ∷ []) (sym c.entry-item.is)) ∙ filter-append rarer (take i es) (e ∷ []) in
    subst (λ xs. Knows xs c.if-not-is_same.rarer) (sym seen)
    (elim c.if-not-is_same.branch as (λ _. Knows (filter rarer (take i es) ++ cond (rarer e) (e ∷ []) []) c.if-not-is_same.rarer) [
      | then-not-is_same+in_ok-learn_names w ↦
          let is : rarer e ≡ true = search rules in
          subst (λ b. Knows (filter rarer (take i es) ++ cond b (e ∷ []) []) c.if-not-is_same.rarer) (sym is)
          (subst (Knows (filter rarer (take i es) ++ e ∷ [])) (sym w.rarer-is) (w.in_ok-learn_names.ensures.knows (filter rarer (take i es)) c.loop-entry.invariant))
      | else-not-is_same w ↦
          let isnt : rarer e ≡ false = search rules in
          subst (λ b. Knows (filter rarer (take i es) ++ cond b (e ∷ []) []) c.if-not-is_same.rarer) (sym isnt)
          (subst (λ xs. Knows xs c.if-not-is_same.rarer) (sym (append-nil (filter rarer (take i es))))
          (subst (Knows (filter rarer (take i es))) (sym w.rarer-is) c.loop-entry.invariant))
    ])
