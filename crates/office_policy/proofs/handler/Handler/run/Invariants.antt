use Rattle.std.proofs.Common.{◌≡◌, ◌≤◌, take, length, vec_len, vec_capacity}
use Rattle.office_policy.specs.Ran.{HaveRun}
use Rattle.office_policy.proofs.handler.Handler.run.Given as goal

abbrev pub invariant-loop-request : goal.invariant-loop-request
invariant-loop-request g l =
    record {
      room : length l.requests ≤ vec_capacity l.answers;
      count : vec_len l.answers ≡ l.request-index;
      ran : HaveRun g.Self.Handler.meaning l.fn.self l.self (take l.request-index l.requests) l.answers.items;
    }
