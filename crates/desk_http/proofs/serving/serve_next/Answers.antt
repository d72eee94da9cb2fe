use Rattle.std.proofs.Common.{inl}
use Rattle.desk_http.proofs.serving.serve_next.Goals as goal

pub returns-in-Ok : goal.returns-in-Ok
returns-in-Ok g c = inl (c.accept.new.self, c.in-Ok.stream, c.in-Ok.ensures, c.serve_stream.ensures)
