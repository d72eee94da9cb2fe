use Rattle.std.proofs.Common.{drop}
use Rattle.json_tree.proofs.Writing.{Leaves}
use Rattle.json_requests.specs.Answers.{listed_data}
use Rattle.json_requests.proofs.answer.write_listing.Given as goal

abbrev pub invariant-loop-listed : goal.invariant-loop-listed
invariant-loop-listed l = Leaves listed_data l.profiles (drop l.listed-index l.profiles) l.initial.out l.out
