-- Lines as people read them, written out.
use Rattle.std.specs.Prelude.{ℕ, ◌+◌, ◌^◌, List, [], ◌∷◌, ◌++◌, None, codes, false, replicate}
use Rattle.office_words.specs.declared.name.ProfileName.{ProfileName}
use Rattle.office_words.specs.declared.revision.State.TheVariants.{Open}
use Rattle.office_words.specs.declared.row.RevisionRow.{RevisionRow}
use Rattle.office_policy.specs.History.{Event, founded, enrolled}
use Rattle.journal_reports.specs.Passing.{Asked}

abbrev pub web : ProfileName
web = record { team = codes "blue"; profile = codes "web" }

-- 67d596, and then anything
abbrev pub digest : List ℕ
digest = 103 ∷ 213 ∷ 150 ∷ replicate 29 171

abbrev pub row : RevisionRow
row = record {
  number = 1;
  author = codes "ann";
  state = Open;
  body = [];
  digest = digest;
}

-- with CAP_SYS_ADMIN listed
abbrev pub founding : Event
founding = founded (codes "root") (codes "office") digest (2 ^ 21)

-- as author and reviewer
abbrev pub enrolment : Event
enrolment = enrolled (codes "root") (codes "ann") (codes "blue") (2 + 4) digest

-- ---- what is asked for

-- each line
abbrev pub each : Asked
each = record { team = None; profile = None; user = None; since = 1; json = false }

-- ---- lines of JSON, as another printer writes them that sorts the members of an object

abbrev pub digest_text : List ℕ
digest_text = codes "67d596ababababababababababababababababababababababababababababab"

abbrev pub founding_json : List ℕ
founding_json =
    codes "{\"digest\":\"" ++ digest_text
    ++ codes "\",\"event\":\"found\",\"line\":1,\"listed\":[\"CAP_SYS_ADMIN\"]"
    ++ codes ",\"team\":\"office\",\"user\":\"root\"}\n"

abbrev pub enrolment_json : List ℕ
enrolment_json =
    codes "{\"by\":\"root\",\"digest\":\"" ++ digest_text
    ++ codes "\",\"event\":\"enrol\",\"line\":2,\"roles\":[\"author\",\"reviewer\"]"
    ++ codes ",\"team\":\"blue\",\"user\":\"ann\"}\n"

abbrev pub vote_json : List ℕ
vote_json =
    codes "{\"by\":\"rev\",\"digest\":\"" ++ digest_text
    ++ codes "\",\"event\":\"vote\",\"line\":4,\"profile\":\"web\",\"revision\":1"
    ++ codes ",\"team\":\"blue\",\"vote\":\"reject\"}\n"

abbrev pub issue_json : List ℕ
issue_json =
    codes "{\"by\":\"iss\",\"digest\":\"" ++ digest_text
    ++ codes "\",\"event\":\"issue\",\"line\":15,\"profile\":\"web\",\"revision\":1"
    ++ codes ",\"team\":\"blue\"}\n"

abbrev pub withdrawal_json : List ℕ
withdrawal_json =
    codes "{\"by\":\"sue\",\"digest\":\"" ++ digest_text
    ++ codes "\",\"event\":\"withdraw\",\"line\":6,\"profile\":\"web\",\"revision\":1"
    ++ codes ",\"team\":\"blue\"}\n"

abbrev pub adoption_json : List ℕ
adoption_json =
    codes "{\"by\":\"sue\",\"digest\":\"" ++ digest_text
    ++ codes "\",\"event\":\"adopt\",\"line\":7,\"profile\":\"web\",\"revision\":1"
    ++ codes ",\"team\":\"blue\"}\n"

abbrev pub hold_json : List ℕ
hold_json =
    codes "{\"by\":\"sue\",\"event\":\"hold\",\"line\":8,\"profile\":\"web\",\"team\":\"blue\"}\n"

abbrev pub release_json : List ℕ
release_json =
    codes "{\"by\":\"sue\",\"event\":\"release\",\"line\":9"
    ++ codes ",\"profile\":\"web\",\"team\":\"blue\"}\n"
