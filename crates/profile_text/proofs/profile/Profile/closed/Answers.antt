use Rattle.std.proofs.Common.{ap, Some}
use Rattle.profile_text.proofs.States.{closed_is}
use Rattle.profile_text.proofs.profile.Profile.closed.Goals as goal

pub returns : goal.returns
returns c =
    let empty = c.empty-none.ensures.bits in
    closed_is _ empty empty empty empty empty (ap Some c.only_default.ensures)
