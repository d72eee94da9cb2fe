use Rattle.desk_http.proofs.ListeningFacts.{Lined}
use Rattle.desk_http.proofs.serving.serve_exchanges.Given as goal

abbrev pub invariant-loop : goal.invariant-loop
invariant-loop g l =
    Lined g.L.Listener.meaning g.L.Reader.Read.remaining g.L.Writer.Write.contents g.H.Handler.meaning
    g.O.Write.contents l.fn.listener l.listener l.fn.office l.office l.fn.output l.output l.counter
