use Rattle.std.proofs.Common.{◌≡◌, ◌+◌, ◌-◌, ◌^◌, min, arith, length, refl}
use Rattle.sealed_log.proofs.LogFacts.{has_bytes, told_whole, whole_more}
use Rattle.sealed_log.proofs.log.SealedLog.put_lines.Goals as goal

pub add_line-requires-clause-some : goal.add_line-requires-clause-some
add_line-requires-clause-some g c =
    let lines = c.requires.lines in
    has_bytes c.args.self.now.seal lines.0 lines.1 c.args.text.now c.args.seal c.args.lines lines.2

pub invariant_of-self : goal.invariant_of-self
invariant_of-self g c =
    let old = c.args.self.now in
    let seen = g.D.Disk.seen old.disk in
    let text = c.args.text.now in
    let is_open = c.requires.is_open in
    let lines = c.requires.lines in
    let kept = c.in-Whole.ensures.kept (old.settled is_open) in
    let counted : c.saturating_add-self.result ≡ min (old.end + length text) (2 ^ 64 - 1) = omega arith in
    let more_lines : c.saturating_add-self-in-Whole.result ≡ min (old.lines + c.args.lines) (2 ^ 64 - 1) = omega arith in
    record {
      usable = λ _. kept.usable;
      settled = λ _. kept.settled;
      whole = λ _ clean.
          let was = old.whole is_open (c.in-Whole.ensures.clean clean) in
          let tried = c.in-Whole.ensures.added clean seen was.end (record { seen = refl; settled = old.settled is_open }) in
          whole_more seen (g.D.Disk.seen c.add_line.new.disk) old.seal lines.0 lines.1 text c.args.seal old.end old.lines c.args.lines was lines.2 tried.became.seen
          c.saturating_add-self.result c.saturating_add-self-in-Whole.result counted more_lines;
    }

pub returns-in-Whole-clause-appended : goal.returns-in-Whole-clause-appended
returns-in-Whole-clause-appended g c = λ settling body are.
    let old = c.args.self.now in
    let seen = g.D.Disk.seen old.disk in
    let is_open = c.requires.is_open in (
      refl,
      λ clean.
          let was = old.whole is_open (c.in-Whole.ensures.clean clean) in
          let tried = c.in-Whole.ensures.added clean seen was.end (record { seen = refl; settled = old.settled is_open }) in
          told_whole seen (g.D.Disk.seen c.add_line.new.disk) old.seal settling body c.args.text.now c.args.seal old.end old.lines c.args.lines was are tried.became.seen,
    )
