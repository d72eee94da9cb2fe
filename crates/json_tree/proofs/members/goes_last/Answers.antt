use Rattle.std.proofs.Common.{◌≡◌, ◌-◌, ◌<◌, length, get_or, Greater, nat_cmp, ◌∙◌, sym, rules}
use Rattle.std.specs.Cmp.Lexicographic.{slice_cmp}
use Rattle.json_tree.proofs.Views.{is_greater}
use Rattle.json_tree.proofs.Put.{put_above}
use Rattle.json_tree.proofs.members.goes_last.Goals as goal

pub returns-then-begins_above : goal.returns-then-begins_above
returns-then-begins_above c above v =
    let es = c.args.members.now in
    let e = c.in-Some.last.now in
    let here : e ≡ get_or es (length es - 1) e = c.in-Some.ensures.item.1 in
    let some : 0 < length es = c.in-Some.ensures.item.3.0 in
    let greater : slice_cmp nat_cmp c.args.name.now e.0.now ≡ Greater = search rules in
    put_above c.args.name v es e c.requires some here greater

pub returns-else-begins_above : goal.returns-else-begins_above
returns-else-begins_above c above v =
    let es = c.args.members.now in
    let e = c.in-Some.last.now in
    let here : e ≡ get_or es (length es - 1) e = c.in-Some.ensures.item.1 in
    let some : 0 < length es = c.in-Some.ensures.item.3.0 in
    let greater : slice_cmp nat_cmp c.args.name.now e.0.now ≡ Greater = is_greater (slice_cmp nat_cmp c.args.name.now e.0.now) (sym c.gt.ensures ∙ above) in
    put_above c.args.name v es e c.requires some here greater
