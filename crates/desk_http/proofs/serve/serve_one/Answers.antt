use Rattle.desk_http.proofs.ServedFacts.{served_left, served_whole}
use Rattle.desk_http.proofs.serve.serve_one.Goals as goal

pub returns-clause-of_stream : goal.returns-clause-of_stream
returns-clause-of_stream g c = served_whole _ _ _ _ _ _ _ c.exchange.ensures.served

pub returns-clause-left : goal.returns-clause-left
returns-clause-left g c = λ h office only clean. served_left g.H.Handler.meaning _ _ h office only clean _ _ _ _ _ c.exchange.ensures.served
