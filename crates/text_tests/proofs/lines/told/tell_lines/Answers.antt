use Rattle.std.proofs.Common.{ap, subst, arith}
use Rattle.streams.specs.declared.find.Found.{Found}
use Rattle.streams.specs.declared.find.Found.TheVariants.{End}
use Rattle.streams.specs.Found.{IsFound}
use Rattle.streams.specs.Held.{size}
use Rattle.text_tests.proofs.ToldFacts.{progress_none, progress_read, progress_more, last_told, all_told}
use Rattle.text_tests.proofs.lines.told.tell_lines.Goals as goal

pub loop-lines-init : goal.loop-lines-init
loop-lines-init g c = record {
  progress = progress_none _ _ _ c.in_ok-lines.ensures.handed c.new-text.ensures.items;
  calls = c.requires.calls;
  number = omega (arith, ap size c.in_ok-lines.ensures.nothing, c.requires.few);
}

pub loop-lines-preserved : goal.loop-lines-preserved
loop-lines-preserved g c =
    let read = progress_read _ _ _ _ _ _ _ c.loop-lines.invariant.progress c.in-Line.ensures.handed in
    record {
      progress = progress_more _ _ _ _ _ _ read c.in_ok-tell_line-in-Line.ensures _ c.pass.ensures.handed;
      calls = c.in-Line.ensures.calls;
      number = omega (arith, c.in-Line.ensures.work, c.pass.ensures.less, c.loop-lines.invariant.number);
    }

pub returns-in-LastLine : goal.returns-in-LastLine
returns-in-LastLine g c =
    let read = progress_read _ _ _ _ _ _ _ c.loop-lines.invariant.progress c.in-LastLine.ensures.handed in
    let found = c.in-LastLine.ensures.found in
    record { all = λ _. last_told _ _ _ _ _ _ read c.in_ok-tell_line-in-LastLine.ensures found.0 found.1 found.2 }

pub returns-in_default : goal.returns-in_default
returns-in_default g c = record {
  all = λ ended.
      let read = progress_read _ _ _ _ _ _ _ c.loop-lines.invariant.progress c.find.ensures.handed in
      let found : IsFound c.find.new.self (g.R.Read.remaining c.find.new.reader.inner) End = subst (λ (f : Found). IsFound c.find.new.self (g.R.Read.remaining c.find.new.reader.inner) f) ended c.find.ensures.found in
      all_told _ _ _ _ _ read found.0 found.1;
}
