use Rattle.command_line.proofs.serve.add_serve.Goals as goal

pub returns : goal.returns
returns c = c.add_command.ensures
