use Rattle.std.proofs.Common.{rules, [], Some, ◌∙◌}
use Rattle.std.specs.Prelude.{◌&&◌}
use Rattle.office_store.proofs.Rows.{four_columns}
use Rattle.office_store.proofs.standing_votes.read_vote.Goals as goal

pub returns-clause-read : goal.returns-clause-read
returns-clause-read c = record {
  cast = record {
    voter = c.in_ok-voter.voter;
    vote = record { approves = c.in_ok-approve.approve; security = c.in_ok-had_security.had_security };
    user = Some (record { name = c.in_ok-voter.voter; team = []; roles = c.in_ok-roles.roles; digest = [] });
  };
  row_is =
      four_columns c.args.row.now _ _ _ _ (search rules) c.in_ok-voter.ensures.word.1 c.in_ok-approve.ensures.flag.1
      c.in_ok-had_security.ensures.flag.1 c.in_ok-roles.ensures.roles.1;
  stands = λ i. record {
    voter = c.in_ok-voter.voter;
    approve = c.in_ok-approve.approve;
    security = (c.is_secure-security.ensures ∙ (λ k. c.has-counts.ensures k && c.in_ok-had_security.had_security && c.has-has_security.ensures k)) i;
    counts = c.has-counts.ensures i;
  };
}
