use Rattle.std.proofs.Common.{◌∙◌, inl, inr, subst, sym}
use Rattle.std.specs.Bool.{OnTrue}
use Rattle.std.proofs.lemmas.Bool.{cases_Bool}
use Rattle.seccomp_doc.specs.Lawful.{HasOneAction}
use Rattle.seccomp_doc.specs.Names.{action_under}
use Rattle.seccomp_doc.proofs.OneAction.{apart}
use Rattle.seccomp_doc.proofs.names.are_apart.Goals as goal

pub returns-in-Ok : goal.returns-in-Ok
returns-in-Ok c =
    let es = c.args.entries.now in
    elim (cases_Bool c.avoid_known.result) as (λ _. OnTrue c.avoid_known.result (HasOneAction es)) [
      | inl avoid ↦
          subst (λ b. OnTrue b (HasOneAction es)) (sym avoid)
          (apart c.args.common es (action_under c.in-Ok.rarer) c.in-Ok.ensures (sym c.avoid_known.ensures ∙ avoid))
      | inr meet ↦ subst (λ b. OnTrue b (HasOneAction es)) (sym meet) tt
    ]
