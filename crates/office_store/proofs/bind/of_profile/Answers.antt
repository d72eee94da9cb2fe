use Rattle.office_store.proofs.bind.of_profile.Goals as goal

pub returns-clause-formed : goal.returns-clause-formed
returns-clause-formed c = record { team = c.as_str-team.ensures.formed; profile = c.as_str-name.ensures.formed }
