-- What was done by a command, by the words that it was.
use Rattle.std.proofs.Common.{◌≡◌, ℕ, List, Bool, true, false, Option, Some, Result, Ok, Err, ◌∙◌, ap, inl, inr, subst, sym}
use Rattle.std.specs.Prelude.{IfErr, IfOk, MatchResult}
use Rattle.command_line.specs.declared.command.Command.{Command}
use Rattle.command_line.specs.declared.command.Command.TheVariants as command
use Rattle.streams.specs.declared.counted.Counted.{Counted}
use Rattle.command_host.specs.Known.{Known}
use Rattle.command_host.specs.Said.{IsRefusal}
use Rattle.command_host.specs.declared.fault.CommandFault.{CommandFault}
use Rattle.office_commands.specs.Commands.{ended_well, failed_status, HasEnded, HasRun, IfSet}
use Rattle.office_commands.specs.declared.ended.Ended.{Ended}
use Rattle.no_memory.specs.declared.witness.NoMemory.{«NoMemory» as Want}
use Rattle.office_commands.specs.Failing.{HasFailed}
use Rattle.office_commands.specs.Notes.{HasNoted}
use Rattle.office_commands.specs.Subjects.{subject_of}

module _ {S D F L N O E : Type 0} (k : Known S D F L N) (contents : O → Option (List ℕ)) (said_of : E → Option (List ℕ)) (errors noted : Counted E) where
  -- what was done by a command was done by whatever is the same command
  pub run_as : (x y : Command) (came left : Option (List ℕ)) (output wrote : Counted O) (status : ℕ) → x ≡ y
      → HasRun k contents said_of errors noted y came left output wrote status → HasRun k contents said_of errors noted x came left output wrote status
  run_as x y came left output wrote status same run =
      subst (λ (z : Command). HasRun k contents said_of errors noted z came left output wrote status) (sym same) run

  -- and so failed
  pub failed_as : (x y : Command) (came left : Option (List ℕ)) (output wrote : Counted O) (why : CommandFault) → x ≡ y
      → HasFailed k contents said_of errors noted y came left output wrote why → HasFailed k contents said_of errors noted x came left output wrote why
  failed_as x y came left output wrote why same failed =
      subst (λ (z : Command). HasFailed k contents said_of errors noted z came left output wrote why) (sym same) failed

  -- so did whatever it ended with
  pub all_failed_as : (x y : Command) (came left : Option (List ℕ)) (output wrote : Counted O) (ended : Result ℕ CommandFault) → x ≡ y
      → IfErr ended (HasFailed k contents said_of errors noted y came left output wrote) → IfErr ended (HasFailed k contents said_of errors noted x came left output wrote)
  all_failed_as x y came left output wrote (Ok status) same failed = tt
  all_failed_as x y came left output wrote (Err why) same failed = failed_as x y came left output wrote why same failed

module _ {E : Type 0} (said_of : E → Option (List ℕ)) (errors said : Counted E) where
  -- what was said of a fault was said of whatever is the same fault
  pub refusal_as : (why other : CommandFault) (subject : Option (List ℕ)) (want : Option Want) → why ≡ other → IsRefusal said_of errors said why subject want
      → IsRefusal said_of errors said other subject want
  refusal_as why other subject want same refusal = subst (λ (w : CommandFault). IsRefusal said_of errors said w subject want) same refusal

-- of what was noted before a command ended
module _ {E : Type 0} (said_of : E → Option (List ℕ)) (noted said : Counted E) where
  -- how it ended is how the program does
  pub has_ended : (asked : Command) (NotesWell Notes : Counted E → Type 0) (Run : Counted E → ℕ → Type 0) (Fails : Counted E → CommandFault → Type 0) (came : Result ℕ CommandFault) (ended : Ended)
      → IfOk came (λ it. NotesWell noted) → Notes noted → IfOk came (Run noted) → IfErr came (Fails noted)
      → MatchResult came (λ s. (ended ≡ ended_well s) × (said ≡ noted))
      (λ why. (ended.status ≡ failed_status asked) × (ended.why ≡ Some why) × IsRefusal said_of noted said why (subject_of asked why) ended.witness)
      → HasEnded said_of said asked NotesWell Notes Run Fails ended
  has_ended asked NotesWell Notes Run Fails (Ok s) ended well notes run fails how =
      let status : ended.status ≡ s = ap (λ e. e.status) how.0 in
      inl (subst (λ e. Run e ended.status) (sym how.1) (subst (Run noted) (sym status) run), subst NotesWell (sym how.1) well, how.0 ∙ ap ended_well (sym status))
  has_ended asked NotesWell Notes Run Fails (Err why) ended well notes run fails how = inr (why, how.1, how.0, (noted, fails, notes, how.2))

-- what is known of a result, by what is known of it otherwise
pub ok_as : {A E : Type 0} (P Q : A → Type 0) (result : Result A E) → ((a : A) → P a → Q a) → IfOk result P → IfOk result Q
ok_as P Q (Ok a) to was = to a was
ok_as P Q (Err e) to was = tt

-- and of why it failed
pub err_as : {A : Type 0} (P Q : CommandFault → Type 0) (result : Result A CommandFault) → ((why : CommandFault) → P why → Q why) → IfErr result P → IfErr result Q
err_as P Q (Ok a) to was = tt
err_as P Q (Err why) to was = to why was

-- where a flag is set this holds, and where it isn't nothing is asked
pub if_set : (b : Bool) (Holds : Type 0) → b ≡ true → Holds → IfSet b Holds
if_set true Holds is holds = holds
if_set false Holds is holds = tt

pub if_unset : (b : Bool) (Holds : Type 0) → b ≡ false → IfSet b Holds
if_unset true Holds is = absurd (let c : true ≡ false = is in cc)
if_unset false Holds is = tt
