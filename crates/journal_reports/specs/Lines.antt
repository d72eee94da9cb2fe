-- The lines by which people read what happened in an office.
use Rattle.std.specs.Prelude.{ℕ, ◌+◌, List, [], ◌∷◌, ◌++◌, Bool, true, false, Option, Some, None}
use Rattle.std.specs.Prelude.{codes, decimal, take}
use Rattle.hex.specs.Hex.{encode_lower}
use Rattle.cap_sets.specs.Capability.{names_of}
use Rattle.profile_text.specs.Digest.{digest_of}
use Rattle.review_policy.specs.declared.act.ProfileAct.{ProfileAct}
use Rattle.review_policy.specs.declared.act.ProfileAct.TheVariants.{Hold, Release}
use Rattle.review_policy.specs.declared.act.RevisionAct.{RevisionAct}
use Rattle.review_policy.specs.declared.act.RevisionAct.TheVariants.{Issue, Withdraw, Adopt}
use Rattle.office_words.specs.declared.name.ProfileName.{ProfileName}
use Rattle.review_sheet.specs.Layout.{ended, spaced}
use Rattle.office_words.specs.declared.row.RevisionRow.{RevisionRow}
use Rattle.office_policy.specs.History.{Event, History, founded, enrolled, submitted, voted}
use Rattle.office_policy.specs.History.{on_revision as acted_on_revision}
use Rattle.office_policy.specs.History.{on_profile as acted_on_profile}
use Rattle.office_policy.specs.Revisions.{last_revision, number_of, revision_of}
use Rattle.office_words.specs.WordTables.{role_words}
use Rattle.journal_reports.specs.Json.{json_of}

-- items, each behind a space, or `none`
abbrev pub each_spaced : List (List ℕ) → List ℕ
each_spaced [] = codes " none"
each_spaced (item ∷ items) = spaced (item ∷ items)

-- the first six hexadecimal digits of a digest: those of its first three bytes
abbrev pub short_digest : List ℕ → List ℕ
short_digest digest = codes " (" ++ encode_lower (take 3 digest) ++ codes "..)"

-- the first digits of a revision's digest, where the revision is there
abbrev pub digest_in : Option RevisionRow → List ℕ
digest_in None = []
digest_in (Some row) = short_digest row.digest

-- who did what to a profile
abbrev pub on_profile : (caller did : List ℕ) → ProfileName → List ℕ
on_profile caller did p = caller ++ codes " " ++ did ++ codes " " ++ p.team ++ codes "/" ++ p.profile

-- who did what to a revision
abbrev pub on_revision : (caller did : List ℕ) → ProfileName → (number : ℕ) → List ℕ
on_revision caller did p n = on_profile caller did p ++ (codes " " ++ decimal n)

-- what an act did to a revision
abbrev pub revision_word : RevisionAct → List ℕ
revision_word Issue = codes "issued"
revision_word Withdraw = codes "withdrew"
revision_word Adopt = codes "adopted"

-- what an act did to a profile
abbrev pub profile_word : ProfileAct → List ℕ
profile_word Hold = codes "held"
profile_word Release = codes "released"

-- what a vote did
abbrev pub voted_word : Bool → List ℕ
voted_word true = codes "approved"
voted_word false = codes "rejected"

-- the revision that a line looks up: the one that the event names, and for a submission the last
-- one of its profile
abbrev pub looked_up : Event → History → Option RevisionRow
looked_up (founded name team digest listed) h = None
looked_up (enrolled caller name team roles digest) h = None
looked_up (submitted caller p text) h = last_revision h p
looked_up (voted caller p n digest approves) h = revision_of h p n
looked_up (acted_on_revision caller act p n) h = revision_of h p n
looked_up (acted_on_profile caller act p) h = None

-- who did what, by what was looked up: a submission gets the number behind the last revision's
abbrev pub deed : Event → Option RevisionRow → List ℕ
deed (founded name team digest listed) found =
    (name ++ codes " founded " ++ team ++ codes ", listed") ++ each_spaced (names_of listed)
deed (enrolled caller name team roles digest) found =
    (caller ++ codes " enrolled " ++ name ++ codes " of " ++ team ++ codes ":")
    ++ each_spaced (role_words roles) ++ short_digest digest
deed (submitted caller p text) found =
    on_revision caller (codes "submitted") p (number_of found + 1) ++ short_digest (digest_of text)
deed (voted caller p n digest approves) found =
    on_revision caller (voted_word approves) p n ++ digest_in found
deed (acted_on_revision caller act p n) found =
    on_revision caller (revision_word act) p n ++ digest_in found
deed (acted_on_profile caller act p) found = on_profile caller (profile_word act) p

-- the number of the line in the journal, two spaces, and who did what
abbrev pub text_of : (line : ℕ) → Event → Option RevisionRow → List ℕ
text_of line e found = ended ((decimal line ++ codes "  ") ++ deed e found)

-- the line of an event, for people or as JSON
abbrev pub text_in : (json : Bool) → (line : ℕ) → Event → Option RevisionRow → List ℕ
text_in false line e found = text_of line e found
text_in true line e found = json_of line e found

-- the line of an event after this history
abbrev pub line_of : (json : Bool) → History → (line : ℕ) → Event → List ℕ
line_of json h line e = text_in json line e (looked_up e h)
