-- What is known of a result, by what is known of it otherwise.
use Rattle.std.proofs.Common.{Result, Ok, Err}
use Rattle.std.specs.Prelude.{IfErr, IfOk}

module _ {A E : Type 0} where
  pub ok_as : (P Q : A → Type 0) (result : Result A E) → ((a : A) → P a → Q a) → IfOk result P → IfOk result Q
  ok_as P Q (Ok a) to was = to a was
  ok_as P Q (Err e) to was = tt

  -- what holds anyway holds where a result is one
  pub ok_anyway : (Holds : Type 0) (result : Result A E) → Holds → IfOk result (λ it. Holds)
  ok_anyway Holds (Ok a) holds = holds
  ok_anyway Holds (Err e) holds = tt

  pub err_as : (P Q : E → Type 0) (result : Result A E) → ((e : E) → P e → Q e) → IfErr result P → IfErr result Q
  err_as P Q (Ok a) to was = tt
  err_as P Q (Err e) to was = to e was
