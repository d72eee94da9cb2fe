-- What a standing vote says.
use Rattle.std.specs.Prelude.{Bool, not, ◌&&◌}
use Rattle.office_words.specs.declared.revision.VoteRow.{VoteRow}

-- a vote that counts and approves
abbrev pub is_approval : VoteRow → Bool
is_approval v = v.counts && v.approve

-- a vote that counts and rejects
abbrev pub is_rejection : VoteRow → Bool
is_rejection v = v.counts && not v.approve
