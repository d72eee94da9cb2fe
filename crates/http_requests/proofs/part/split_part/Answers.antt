use Rattle.std.proofs.Common.{◌+◌, ◌≤◌, ◌∙◌, [], add-one, ap, get_or, length, suc, arith}
use Rattle.std.proofs.lemmas.List.{take_rest}
use Rattle.std.proofs.Math.Seq.{drop-length}
use Rattle.http_requests.proofs.Split.{at_slash, no_slash, none_left}
use Rattle.http_requests.proofs.part.split_part.Goals as goal

pub returns-then-byte-eq47-clause-first : goal.returns-then-byte-eq47-clause-first
returns-then-byte-eq47-clause-first c =
    ap (λ ps. get_or ps 0 []) (at_slash c.args.path.now c.loop-i.i c.loop-i-test.true c.if-byte-eq47.true c.loop-i.invariant)

pub returns-then-byte-eq47-clause-rest : goal.returns-then-byte-eq47-clause-rest
returns-then-byte-eq47-clause-rest c k =
    rw (take_rest c.args.path.now (c.loop-i.i + 1), add-one)
    (ap (λ ps. get_or ps (suc k) []) (at_slash c.args.path.now c.loop-i.i c.loop-i-test.true c.if-byte-eq47.true c.loop-i.invariant))

pub returns-clause-first : goal.returns-clause-first
returns-clause-first c =
    let all : length c.args.path.now ≤ c.loop-i.i = c.loop-i-test.false in
    ap (λ ps. get_or ps 0 []) (no_slash c.args.path.now (λ k small. c.loop-i.invariant k (omega arith)))

pub returns-clause-rest : goal.returns-clause-rest
returns-clause-rest c k =
    let all : length c.args.path.now ≤ c.loop-i.i = c.loop-i-test.false in
    rw (take_rest c.args.path.now (length c.args.path.now), drop-length)
    (ap (λ ps. get_or ps (suc k) []) (no_slash c.args.path.now (λ j small. c.loop-i.invariant j (omega arith))) ∙ none_left k)
