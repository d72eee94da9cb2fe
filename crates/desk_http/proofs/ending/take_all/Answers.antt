use Rattle.std.proofs.Common.{◌∙◌, refl, arith, rules}
use Rattle.desk_http.specs.Clocks.{IsLeft}
use Rattle.desk_http.specs.Endings.{GaveNone, IsRead}
use Rattle.desk_http.proofs.EndingFacts.{read_within, reads_more, reads_none, taken_most, taken_whole}
use Rattle.desk_http.proofs.ending.take_all.Goals as goal

pub loop-init : goal.loop-init
loop-init g c = record { same = refl; reads = reads_none _ _ _ _ }

pub returns-in-Ok-eq0 : goal.returns-in-Ok-eq0
returns-in-Ok-eq0 g c =
    let waits = g.T.Timeouts.read_waits in
    let gives = g.T.PassRead.gives in
    let first = c.args.rest.now.deadline in
    let left = IsLeft (g.C.PassClock.shows first.clock.now) first.end in
    let none : GaveNone c.read.result = search rules in
    let read : IsRead waits gives left c.loop.rest.stream c.read.new.self.stream c.read.result =
    read_within waits gives g.C.PassClock.shows c.loop.rest.stream c.read.new.self.stream c.read.new.buf c.read.result c.loop.rest.deadline first c.loop.invariant.same c.read.ensures.timed in
    taken_whole waits gives left c.loop.counter 10000 c.args.rest.now.stream c.loop.rest.stream c.read.new.self.stream c.read.result c.loop.invariant.reads
    (omega (arith, c.loop-test.true)) none read

pub returns-in-Ok-eq0-2 : goal.returns-in-Ok-eq0-2
returns-in-Ok-eq0-2 g c =
    let waits = g.T.Timeouts.read_waits in
    let gives = g.T.PassRead.gives in
    let first = c.args.rest.now.deadline in
    let left = IsLeft (g.C.PassClock.shows first.clock.now) first.end in
    let none : GaveNone c.read.result = search rules in
    let read : IsRead waits gives left c.loop.rest.stream c.read.new.self.stream c.read.result =
    read_within waits gives g.C.PassClock.shows c.loop.rest.stream c.read.new.self.stream c.read.new.buf c.read.result c.loop.rest.deadline first c.loop.invariant.same c.read.ensures.timed in
    taken_whole waits gives left c.loop.counter 10000 c.args.rest.now.stream c.loop.rest.stream c.read.new.self.stream c.read.result c.loop.invariant.reads
    (omega (arith, c.loop-test.true)) none read

pub loop-preserved : goal.loop-preserved
loop-preserved g c =
    let waits = g.T.Timeouts.read_waits in
    let gives = g.T.PassRead.gives in
    let first = c.args.rest.now.deadline in
    let left = IsLeft (g.C.PassClock.shows first.clock.now) first.end in
    let read : IsRead waits gives left c.loop.rest.stream c.read.new.self.stream c.read.result =
    read_within waits gives g.C.PassClock.shows c.loop.rest.stream c.read.new.self.stream c.read.new.buf c.read.result c.loop.rest.deadline first c.loop.invariant.same c.read.ensures.timed in
    record {
      same = c.read.ensures.deadline ∙ c.loop.invariant.same;
      reads = reads_more waits gives left c.loop.counter c.args.rest.now.stream c.loop.rest.stream c.read.new.self.stream c.read.result c.loop.invariant.reads read;
    }

pub returns : goal.returns
returns g c = taken_most _ _ _ c.loop.counter 10000 c.args.rest.now.stream c.loop.rest.stream c.loop.invariant.reads (omega (arith, c.loop-test.false, c.loop.auto.counter-end))
