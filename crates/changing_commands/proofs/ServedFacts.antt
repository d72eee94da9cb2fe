-- What came of serving, by how it ended.
use Rattle.std.proofs.Common.{◌⊎◌, ℕ, List, Result, Ok, Err, inl, inr}
use Rattle.std.specs.Prelude.{IfErr, OnOk}
use Rattle.command_line.specs.declared.command.JournalWords.{JournalWords}
use Rattle.command_line.specs.declared.command.JournalWords.TheVariants.{Unnamed, Named, Without}
use Rattle.command_host.specs.Known.{Known}
use Rattle.command_host.specs.Openings.{FailsFor}
use Rattle.command_host.specs.declared.fault.CommandFault.{CommandFault}
use Rattle.changing_commands.specs.Served.{Comes, IsServedNamed, IsUnservedKept, IsUnservedUnnamed, IsUnservedWithout}

module _ {X : Type 0} (Came : Result (Unit {0}) CommandFault → (old new : X) → Type 0) (old new : X) where
  pub all_served : (result : Result (Unit {0}) CommandFault) → Came result old new → OnOk result (Came (Ok (tt {0})) old new)
  all_served (Ok done) it = it
  all_served (Err why) it = tt

  pub served_until : (result : Result (Unit {0}) CommandFault) → Came result old new → IfErr result (λ why. Came (Err why) old new)
  served_until (Ok done) it = tt
  served_until (Err why) it = it

-- what holds of either end holds
pub of_either : (P : Result (Unit {0}) CommandFault → Type 0) (result : Result (Unit {0}) CommandFault) → OnOk result (P (Ok (tt {0}))) → IfErr result (λ why. P (Err why)) → P result
of_either P (Ok done) ok err = ok
of_either P (Err why) ok err = err

module _ {S D F L N : Type 0} (k : Known S D F L N) (Came : Comes) (path : List ℕ) (Unused Others : Type 0) (to : Unused → Others) where
  -- a refusal says this of what was unused, where that says it
  fails_as : (Refuses : CommandFault → Type 0) (Served : Type 0) (r : Result (Unit {0}) CommandFault) → FailsFor (λ why. Refuses why × Unused) r ⊎ Served
      → FailsFor (λ why. Refuses why × Others) r ⊎ Served
  fails_as Refuses Served (Ok done) (inl it) = absurd it
  fails_as Refuses Served (Err why) (inl it) = inl (it.0, to it.1)
  fails_as Refuses Served r (inr it) = inr it

  pub unused_as : (journal : JournalWords) (r : Result (Unit {0}) CommandFault) → IsServedNamed k Came path Unused journal r → IsServedNamed k Came path Others journal r
  unused_as Unnamed r it = fails_as (IsUnservedUnnamed k path) _ r it
  unused_as Without r it = fails_as (IsUnservedWithout k path) _ r it
  unused_as (Named file) r it = fails_as (IsUnservedKept k path file.now) _ r it
