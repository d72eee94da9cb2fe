use Rattle.profile_text.proofs.Writing.{text_is}
use Rattle.profile_text.proofs.canonical.print.Goals as goal

pub returns : goal.returns
returns c =
    text_is c.args.profile.now c.in_ok-out.ensures c.in_ok-write_profile.ensures c.written_text.ensures
