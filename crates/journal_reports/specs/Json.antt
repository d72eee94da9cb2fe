-- The lines by which programs read what happened in an office: compact JSON, with the members of
-- each object in byte order of their names. They are those of the journal's line, without a
-- document and with the number of that line; of what was done to a revision its number and digest.
use Rattle.std.specs.Prelude.{ℕ, ◌+◌, List, Option, Some, option_map, codes}
use Rattle.serde_json.specs.Data.{Data}
use Rattle.serde_json.specs.Written.{compact_text}
use Rattle.profile_text.specs.Digest.{digest_of}
use Rattle.review_policy.specs.Acts.{profile_act_word, revision_act_word}
use Rattle.review_sheet.specs.Layout.{ended}
use Rattle.office_words.specs.declared.row.RevisionRow.{RevisionRow}
use Rattle.office_policy.specs.History.{Event, founded, enrolled, submitted, voted}
use Rattle.office_policy.specs.History.{on_revision, on_profile}
use Rattle.office_policy.specs.Revisions.{number_of}
use Rattle.journal.specs.Lines.{enrolment_data, founding_data, of_profile, of_revision, vote_data}

-- the digest of a revision, where it is there
abbrev pub digest_found : Option RevisionRow → Option (List ℕ)
digest_found found = option_map (λ row. row.digest) found

-- who did what, by what was looked up: a submission gets the number behind the last revision's
abbrev pub data_of : (line : ℕ) → Event → Option RevisionRow → Data
data_of line (founded name team digest listed) found =
    founding_data (Some line) name team digest listed
data_of line (enrolled caller name team roles digest) found =
    enrolment_data (Some line) caller name team roles digest
data_of line (submitted caller p text) found =
    of_revision (Some line) (codes "submit") caller p (number_of found + 1) (Some (digest_of text))
data_of line (voted caller p n digest approves) found =
    vote_data (Some line) caller p n digest approves
data_of line (on_revision caller act p n) found =
    of_revision (Some line) (revision_act_word act) caller p n (digest_found found)
data_of line (on_profile caller act p) found =
    of_profile (Some line) (profile_act_word act) caller p

-- the line
unfoldable pub json_of : (line : ℕ) → Event → Option RevisionRow → List ℕ
json_of line e found = ended (compact_text (data_of line e found))
