use Rattle.std.proofs.Common.{rules}
use Rattle.office_store.proofs.bind.of_revision.Goals as goal

pub returns-clause-formed : goal.returns-clause-formed
returns-clause-formed c = record {
  profile = record { team = c.as_str-team.ensures.formed; profile = c.as_str-name.ensures.formed };
  number = search rules;
  author = c.as_str-author.ensures.formed;
  body = search rules;
  digest = c.bytes_of-digest.ensures.long;
}
