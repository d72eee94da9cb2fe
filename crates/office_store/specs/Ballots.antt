-- The vote that an answer stands for, and its row.
use Rattle.sqlite.specs.Order.{Row}
use Rattle.office_words.specs.Tables.{Vote}
use Rattle.office_store.specs.declared.votes.Ballot.{Ballot}
use Rattle.office_store.specs.Entries.{voted_row}

abbrev pub vote_of : Ballot → Vote
vote_of b = record { approves = b.approves; security = b.security }

abbrev pub row_of_ballot : Ballot → Row
row_of_ballot b = voted_row (vote_of b)

-- each is formed
abbrev pub IsBallot : Ballot → Type 0
IsBallot b = Unit {0}
