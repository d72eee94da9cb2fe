use Rattle.profile_commands.proofs.execve.execve_document.Goals as goal

pub returns : goal.returns
returns c = (c.in_ok-document.document.profile, c.in_ok-document.ensures.document, c.in_ok-outcome.ensures)
