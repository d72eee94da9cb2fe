use Rattle.std.proofs.Common.{◌≡◌, ◌∙◌, length}
use Rattle.sealed_log.specs.Sealed.{sealed_text}
use Rattle.sealed_log.specs.Told.{told}
use Rattle.sealed_log.proofs.LogFacts.{length-through, told_tail_of, whole_cut}
use Rattle.sealed_log.proofs.log.SealedLog.open_at.Goals as goal

pub invariant_of-self-2 : goal.invariant_of-self-2
invariant_of-self-2 g c =
    let seen = g.D.Disk.seen c.args.self.now.disk in
    let found = c.args.found.now in
    record {
      usable = λ _. c.in_ok-cut.ensures.usable;
      settled = λ _. c.in_ok-cut.ensures.settled;
      whole = λ _ clean.
          let through = c.requires (c.cut.ensures.clean clean) in
          let has : g.D.Disk.seen c.cut.new.disk ≡ sealed_text (told seen) =
          (c.in_ok-cut.ensures.cut (sealed_text (told seen)) (length seen) (c.at.ensures ∙ length-through seen found through) (told_tail_of seen)).seen in
          whole_cut seen (g.D.Disk.seen c.cut.new.disk) c.seal-self.result c.at-self.result c.lines-self.result found through has c.at-self.ensures c.seal-self.ensures c.lines-self.ensures;
    }

pub returns-clause-has : goal.returns-clause-has
returns-clause-has g c = λ clean.
    let seen = g.D.Disk.seen c.args.self.now.disk in
    let found = c.args.found.now in
    let through = c.requires (c.cut.ensures.clean clean) in
    (c.in_ok-cut.ensures.cut (sealed_text (told seen)) (length seen) (c.at.ensures ∙ length-through seen found through) (told_tail_of seen)).seen
