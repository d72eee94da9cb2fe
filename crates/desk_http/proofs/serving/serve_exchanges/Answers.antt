use Rattle.std.proofs.Common.{◌≡◌, Err, arith, rules}
use Rattle.desk_http.proofs.ListeningFacts.{lined_all, lined_cut, lined_more, lined_none}
use Rattle.desk_http.proofs.serving.serve_exchanges.Goals as goal

pub loop-init : goal.loop-init
loop-init g c = lined_none _ _ _ g.H.Handler.meaning _ _ _ _

pub loop-preserved : goal.loop-preserved
loop-preserved g c =
    lined_more g.L.Listener.meaning _ _ g.H.Handler.meaning _ _ _ _ _ _ _ _ _ _ _ c.loop.invariant c.serve_next-served.ensures
    c.tell.new.output c.in_ok-tell.ensures

pub returns-in_err-tell : goal.returns-in_err-tell
returns-in_err-tell g c =
    let told : c.from_residual.result ≡ Err c.in_err-tell.field-0.0 = search rules in
    rw told (lined_cut g.L.Listener.meaning _ _ g.H.Handler.meaning _ _ _ _ _ _ _ _ _ _ _ c.loop.invariant c.serve_next-served.ensures
    c.tell.new.output _ _ (omega (arith, c.loop-test.true)) c.in_err-tell.ensures)

pub returns : goal.returns
returns g c = lined_all g.L.Listener.meaning _ _ g.H.Handler.meaning _ _ _ _ _ _ _ _ _ c.loop.invariant (search rules)
