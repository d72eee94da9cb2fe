use Rattle.desk_http.proofs.ListeningFacts.{is_over}
use Rattle.desk_http.proofs.serving.serve_stream.Goals as goal

pub returns : goal.returns
returns g c =
    let served = c.serve_one-served.ensures in
    is_over g.L.Listener.meaning _ _ g.H.Handler.meaning _ _ _ _ _ c.args.stream
    c.new-reader.result c.serve_one-served.new.reader c.new-writer.result c.serve_one-served.new.writer
    c.new-reader.ensures.inner c.new-reader.ensures.calls c.new-reader.ensures.faults
    c.new-writer.ensures.inner c.new-writer.ensures.faults
    served.served served.read served.write c.take_back.ensures
