use Rattle.std.proofs.Common.{rules, refl}
use Rattle.sqlite.specs.Held.{state}
use Rattle.journal_verification.proofs.Looks.{looked_itself}
use Rattle.journal_verification.proofs.SideBySide.{fails, if_known, if_open}
use Rattle.journal_verification.proofs.side_by_side.read_rests.Goals as goal

pub returns-in-Ok : goal.returns-in-Ok
returns-in-Ok g c = record {
  built_reference = search rules;
  office_reference = search rules;
  looks = record {
    built = c.read_rest.ensures.looked;
    office = c.read_rest-in-Ok.ensures.looked;
    of_built = λ clean. if_known c.read_rest-in-Ok.result (c.in-Ok.ensures.unchanged clean, c.in-Ok.ensures.rest clean);
    of_office = λ clean. if_open _ _ c.read_rest-in-Ok.result (c.read_rest-in-Ok.ensures.unchanged clean) (c.read_rest-in-Ok.ensures.rest clean);
    cause = c.read_rest-in-Ok.ensures.cause;
  };
}

pub returns-in-Err : goal.returns-in-Err
returns-in-Err g c = record {
  built_reference = search rules;
  office_reference = search rules;
  looks = fails g.S.Store g.T.Store _ _ _ _ _ _ refl c.read_rest.ensures.looked (looked_itself (state g.T.Store c.args.office.now.conn.now) c.requires.office) (λ clean has giving. tt);
}
