-- The office in which requests are tried.
use Rattle.std.proofs.Common.{◌≡◌, ◌∙◌, Result, Ok, Err, inr, refl, subst, sym}
use Rattle.std.specs.Prelude.{IfErr, IfOk, OnOk}
use Rattle.sqlite.specs.Held.{Held}
use Rattle.sqlite.specs.Store.{Ghosts}
use Rattle.cap_sets.specs.Capability.{number_from}
use Rattle.hex.proofs.OnLiterals.{hex_on_literals}
use Rattle.office_words.specs.Digests.{digest_from_hex}
use Rattle.office_words.specs.Words.{is_word}
use Rattle.memory_database.specs.MemoryStore.{MemoryStore, over_memory}
use Rattle.changing_commands.specs.Foundings.{Described, Gives, IsFoundedAs, IsFoundedBy}
use Rattle.changing_commands.specs.Trials.{trial_founding, HasTried}
use Rattle.command_host.specs.declared.fault.CommandFault.{CommandFault}
use Rattle.changing_commands.specs.declared.founding.Founding.{Founding}
use Rattle.command_host.specs.declared.founding_fault.FoundingWordsFault.TheVariants as refusal
use Rattle.no_memory.specs.Witness.{witness}

-- the words of the trial's founding describe one
pub trial_is_described : (founding : Founding) × (trial_founding ≡ Ok founding)
unfolding trial_founding is_word digest_from_hex hex_on_literals number_from
trial_is_described = (_, refl)

-- what is answered is what is described
pub gives_described : (answered described : Described) → Gives answered described → IfOk answered (λ founding. described ≡ Ok founding)
gives_described (Ok founding) described is = is
gives_described (Err why) described is = tt

-- where a founding is described, only want of memory keeps it back
pub only_memory : (answered described : Described) (founding : Founding) → described ≡ Ok founding → Gives answered described → IfErr answered (λ why. why ≡ refusal.NoMemory witness)
only_memory (Ok given) described founding is gives = tt
only_memory (Err refusal.BadWord) described founding is gives = absurd (let never : Ok founding ≡ Err refusal.BadWord = sym is ∙ gives in cc)
only_memory (Err refusal.UnknownCapability) described founding is gives = absurd (let never : Ok founding ≡ Err refusal.UnknownCapability = sym is ∙ gives in cc)
only_memory (Err (refusal.NoMemory _)) described founding is gives = refl

-- what is founded by a founding is founded as it is described
pub founded_as : {S : Type 0} (g : Ghosts S) (described : Described) (founding : Founding) (office : Held S) → described ≡ Ok founding → IsFoundedBy g founding office
    → IsFoundedAs g described office
founded_as g described founding office is by = subst (λ (d : Described). IsFoundedAs g d office) (sym is) by

module _ (Unbegun : Type 0) (Done : (old new : Held MemoryStore) → Type 0) (Stops : CommandFault → (old new : Held MemoryStore) → Type 0) (old : Held MemoryStore) where
  pub tried : IsFoundedAs over_memory trial_founding old → (result : Result (Unit {0}) CommandFault) → OnOk result ((new : Held MemoryStore) × Done old new)
      → IfErr result (λ why. (new : Held MemoryStore) × Stops why old new) → HasTried Unbegun Done Stops result
  tried founded (Ok done) all stops = record { old = old; new = all.0; founded = founded; done = all.1 }
  tried founded (Err why) all stops = inr (record { old = old; new = stops.0; founded = founded; done = stops.1 })
