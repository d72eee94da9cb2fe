use Rattle.std.proofs.Common.{◌≡◌, ◌∙◌, ◌++◌, ap, map, filter, arith}
use Rattle.std.specs.List.{range_with_len}
use Rattle.widening.specs.declared.finding.Finding.TheVariants.{Cap}
use Rattle.widening.specs.Findings.{gained, is_gained}
use Rattle.widening.proofs.FoundFacts.{number_more}
use Rattle.widening.proofs.caps.find_gained.Goals as goal

pub loop-number-preserved : goal.loop-number-preserved
loop-number-preserved c =
    number_more (Cap c.args.set) (is_gained c.args.base c.args.new) c.loop-number.number c.args.found.now.items c.loop-number.found.items c.find_cap.new.found.items
    c.loop-number.invariant c.in_ok-find_cap.ensures

pub returns : goal.returns
unfolding gained
returns c =
    let done : c.loop-number.number ≡ 41 = omega arith in
    c.loop-number.invariant ∙ ap (λ n. c.args.found.now.items ++ map (Cap c.args.set) (filter (is_gained c.args.base c.args.new) (range_with_len 0 n))) done
