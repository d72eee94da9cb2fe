use Rattle.std.proofs.Common.{subst}
use Rattle.sqlite.specs.Held.{state}
use Rattle.journal_verification.specs.Reading.{GivesBehind}
use Rattle.journal_verification.proofs.Firsts.{end_behind, rest_ok}
use Rattle.journal_verification.proofs.Looks.{looked_itself}
use Rattle.journal_verification.proofs.Readings.{unchanged_itself}
use Rattle.journal_verification.proofs.reading.read_rest.Goals as goal

pub returns-in-Some-clause-rest : goal.returns-in-Some-clause-rest
returns-in-Some-clause-rest g c clean =
    rest_ok g.S.Store c.args.rows.now.conn.now (state g.S.Store c.read_out.new.rows.conn.now).now c.read_out.result _ _ c.in-Some.ensures (c.read_out.ensures.rest clean)

pub returns-in-None-clause-looked : goal.returns-in-None-clause-looked
returns-in-None-clause-looked g c = looked_itself (state g.S.Store c.args.rows.now.conn.now) c.requires

pub returns-in-None-clause-rest : goal.returns-in-None-clause-rest
returns-in-None-clause-rest g c clean =
    subst (λ n. GivesBehind g.S.Store c.args.rows.now.conn.now n (state g.S.Store c.args.rows.now.conn.now).now) c.in-None.ensures (end_behind g.S.Store c.args.rows.now.conn.now)

pub returns-in-None-clause-unchanged : goal.returns-in-None-clause-unchanged
returns-in-None-clause-unchanged g c clean is_open = unchanged_itself (state g.S.Store c.args.rows.now.conn.now) is_open
