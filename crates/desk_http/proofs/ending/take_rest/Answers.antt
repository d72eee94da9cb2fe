use Rattle.std.proofs.Common.{◌≡◌, ◌∙◌, rules}
use Rattle.std.specs.Duration.{as_nanos}
use Rattle.desk_http.proofs.EndingFacts.{has_taken}
use Rattle.desk_http.proofs.ending.take_rest.Goals as goal

pub returns : goal.returns
returns g c =
    let end = c.in-Ok.ensures.end in
    let second : as_nanos c.from_secs.result ≡ 1000000000 = search rules in
    let here : c.new-rest.result.deadline.clock.now ≡ c.args.clock.now = c.new-rest.ensures.clock ∙ c.in-Ok.ensures.clock in
    has_taken g.T.Timeouts.read_waits g.T.PassRead.gives g.C.PassClock.shows g.T.EndWriting.ends c.args.clock.now c.new-rest.result.deadline.clock.now
    c.args.stream c.new-rest.result.stream c.take_all.new.rest.stream c.into_inner.result end.0 c.in-Ok.deadline.end c.new-rest.result.deadline.end c.from_secs.result
    c.in-Ok-end_writing.ensures end.1 end.2 second c.new-rest.ensures.stream here c.new-rest.ensures.end c.into_inner.ensures c.take_all.ensures
