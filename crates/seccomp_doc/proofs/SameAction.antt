-- Two actions are the same where the test says so.
use Rattle.std.proofs.Common.{◌≡◌, ap, refl, ℕ, true, ◌==◌, eqb-true, eq-eqb}
use Rattle.seccomp_doc.specs.declared.action.Action.{Action}
use Rattle.seccomp_doc.specs.declared.action.Action.TheVariants.{KillProcess, KillThread, Trap, Errno, Trace, Log, Allow}
use Rattle.seccomp_doc.specs.Action.{same_action}

same_number : (n : ℕ) → (n == n) ≡ true
same_number n = eq-eqb n n refl

pub same_action_itself : (a : Action) → same_action a a ≡ true
same_action_itself KillProcess = refl
same_action_itself KillThread = refl
same_action_itself Trap = refl
same_action_itself (Errno n) = same_number n
same_action_itself (Trace n) = same_number n
same_action_itself Log = refl
same_action_itself Allow = refl

pub same_action_is : (a b : Action) → same_action a b ≡ true → a ≡ b
same_action_is KillProcess KillProcess e = refl
same_action_is KillThread KillThread e = refl
same_action_is Trap Trap e = refl
same_action_is (Errno n) (Errno m) e = ap (λ k. Errno k) (eqb-true n m e)
same_action_is (Trace n) (Trace m) e = ap (λ k. Trace k) (eqb-true n m e)
same_action_is Log Log e = refl
same_action_is Allow Allow e = refl
same_action_is _ _ e = cc
