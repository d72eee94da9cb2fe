use Rattle.std.proofs.Common.{◌≡◌, ◌∷◌, codes, drop, map}
use Rattle.json_tree.specs.View.{members_view}
use Rattle.desk_lines.specs.Flaws.{member_word}
use Rattle.json_requests.specs.Objects.{all_belong}
use Rattle.desk_lines.proofs.formed.all_belong.Given as goal

abbrev pub invariant-loop-name : goal.invariant-loop-name
invariant-loop-name l =
    let names = codes "ask" ∷ map member_word l.parts in
    all_belong names (members_view l.fn.members) ≡ all_belong names (members_view (drop l.name-index l.members))
