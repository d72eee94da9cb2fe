use Rattle.std.proofs.Common.{◌≡◌, ◌++◌, take, arith, rules}
use Rattle.std.proofs.lemmas.Grind.{common_steps}
use Rattle.reading_commands.proofs.ReadingFacts.{calls_more, calls_none, read_more, read_no_more, read_none}
use Rattle.reading_commands.proofs.reading.read_on.Goals as goal

pub reads-init : goal.reads-init
reads-init g c = record {
  read = read_none (g.F.File.Read.remaining c.args.file.now) c.args.bytes.now.items;
  most = c.requires;
  calls = calls_none g.F.PassFiles.gives c.args.file.now;
  few = omega arith;
}

pub reads-preserved-in-Continue-1 : goal.reads-preserved-in-Continue-1
reads-preserved-in-Continue-1 g c =
    let is : c.extend_from_slice.new.self.items ≡ c.reads.bytes.items ++ take c.in-Bytes.count c.read_at_most.new.chunk = search rules in
    record {
      read = read_more (g.F.File.Read.remaining c.args.file.now) (g.F.File.Read.remaining c.reads.file) (g.F.File.Read.remaining c.read_at_most.new.file)
          c.args.bytes.now.items c.reads.bytes.items c.extend_from_slice.new.self.items (take c.in-Bytes.count c.read_at_most.new.chunk)
          c.reads.invariant.read c.in-Bytes.ensures.bytes.2 is;
      most = first_of (search rules, grind (arith, common_steps));
      calls = calls_more g.F.PassFiles.gives c.reads.calls c.args.file.now c.reads.file c.read_at_most.new.file c.reads.invariant.calls c.in-Bytes.ensures.call;
      few = omega (arith, c.reads.invariant.few, c.if-calls-eq-MOST_READS.false);
    }

pub reads-preserved : goal.reads-preserved
reads-preserved g c = record {
  read = read_no_more (g.F.File.Read.remaining c.args.file.now) (g.F.File.Read.remaining c.reads.file) (g.F.File.Read.remaining c.read_at_most.new.file)
      c.args.bytes.now.items c.reads.bytes.items c.reads.invariant.read c.in-Interrupted.ensures.bytes;
  most = c.reads.invariant.most;
  calls = calls_more g.F.PassFiles.gives c.reads.calls c.args.file.now c.reads.file c.read_at_most.new.file c.reads.invariant.calls c.in-Interrupted.ensures.call;
  few = omega (arith, c.reads.invariant.few, c.if-calls-eq-MOST_READS.false);
}
