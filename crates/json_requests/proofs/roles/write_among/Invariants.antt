use Rattle.std.proofs.Common.{drop}
use Rattle.serde_json.specs.Data.{string}
use Rattle.json_tree.proofs.Writing.{Leaves}
use Rattle.office_words.specs.WordTables.{words_among}
use Rattle.json_requests.proofs.roles.write_among.Given as goal

abbrev pub invariant-loop-role : goal.invariant-loop-role
invariant-loop-role l = Leaves string (words_among l.roles l.among) (words_among l.roles (drop l.role-index l.among)) l.initial.out l.out
