use Rattle.std.proofs.Common.{◌≡◌, true}
use Rattle.serde_json.specs.Data.{string}
use Rattle.cap_sets.specs.Capability.{names_of}
use Rattle.json_tree.proofs.Writing.{Leaves}
use Rattle.profile_text.proofs.PlainNames.{all_plain_texts}
use Rattle.profile_text.proofs.canonical.write_set.Given as goal

abbrev pub invariant-loop-name : goal.invariant-loop-name
invariant-loop-name l = Leaves string (names_of l.fn.caps) l.name-iterator l.initial.out l.out × (all_plain_texts l.name-iterator ≡ true)
