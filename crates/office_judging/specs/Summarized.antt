-- Revisions without their texts, as those rules ask of them that look at states and digests alone.
use Rattle.std.specs.Prelude.{[], Option, option_map}
use Rattle.office_words.specs.declared.row.RevisionRow.{RevisionRow}
use Rattle.office_store.specs.declared.summaries.Summary.{Summary}

-- a revision of this state and digest: those rules ask no more of one
abbrev pub row_of : Summary → RevisionRow
row_of s = record { number = 0; author = []; state = s.state; body = []; digest = s.digest }

-- a revision of this state and digest, where there is one
abbrev pub as_asked : Option Summary → Option RevisionRow
as_asked found = option_map row_of found
