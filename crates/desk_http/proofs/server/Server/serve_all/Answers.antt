use Rattle.desk_http.proofs.server.Server.serve_all.Goals as goal

pub returns : goal.returns
returns g c = record {
  before = c.new-listener.result;
  after = c.serve_exchanges.new.listener;
  by_clock = c.new-listener.ensures.clock;
  at_listener = c.new-listener.ensures.listener;
  within = c.new-listener.ensures.longest;
  over = c.serve_exchanges.ensures;
}
