use Rattle.std.proofs.Common.{◌≡◌}
use Rattle.desk_http.specs.Clocks.{IsLeft}
use Rattle.desk_http.specs.Endings.{AreReads}
use Rattle.desk_http.proofs.ending.take_all.Given as goal

abbrev pub invariant-loop : goal.invariant-loop
invariant-loop g l =
    record {
      same : l.rest.deadline ≡ l.fn.rest.deadline;
      reads : AreReads g.T.Timeouts.read_waits g.T.PassRead.gives
          (IsLeft (g.C.PassClock.shows l.fn.rest.deadline.clock.now) l.fn.rest.deadline.end)
          l.counter l.fn.rest.stream l.rest.stream;
    }
