use Rattle.desk_lines.proofs.FormFacts.{read_is}
use Rattle.desk_lines.proofs.formed.is_formed.Goals as goal

pub returns-in-Token : goal.returns-in-Token
returns-in-Token c = rw c.in-Token.is (read_is _ _ _ _ c.token_of.ensures c.is_read.ensures)

pub returns-in-User : goal.returns-in-User
returns-in-User c = rw c.in-User.is (read_is _ _ _ _ c.word_of.ensures c.is_read-in-User.ensures)

pub returns-in-Team : goal.returns-in-Team
returns-in-Team c = rw c.in-Team.is (read_is _ _ _ _ c.word_of-in-Team.ensures c.is_read-in-Team.ensures)

pub returns-in-Roles : goal.returns-in-Roles
returns-in-Roles c = rw c.in-Roles.is (read_is _ _ _ _ c.roles_of.ensures c.is_read-in-Roles.ensures)

pub returns-in-Digest : goal.returns-in-Digest
returns-in-Digest c = rw c.in-Digest.is (read_is _ _ _ _ c.digest_of.ensures c.is_read-in-Digest.ensures)

pub returns-in-Profile : goal.returns-in-Profile
returns-in-Profile c = rw c.in-Profile.is (read_is _ _ _ _ c.word_of-in-Profile.ensures c.is_read-in-Profile.ensures)

pub returns-in-Revision : goal.returns-in-Revision
returns-in-Revision c = rw c.in-Revision.is (read_is _ _ _ _ c.revision_of.ensures c.is_read-in-Revision.ensures)

pub returns-in-Vote : goal.returns-in-Vote
returns-in-Vote c = rw c.in-Vote.is (read_is _ _ _ _ c.vote_of.ensures c.is_read-in-Vote.ensures)

pub returns-in-Before : goal.returns-in-Before
returns-in-Before c = rw c.in-Before.is (read_is _ _ _ _ c.before_of.ensures c.is_read-in-Before.ensures)
