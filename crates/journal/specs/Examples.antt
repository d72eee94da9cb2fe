-- A line of each kind, with its text written out: as a printer of JSON writes it that sorts the
-- members of an object and leaves out spaces.
use Rattle.std.specs.Prelude.{ℕ, ◌+◌, ◌^◌, List, [], ◌∷◌, ◌++◌, false, codes, replicate}
use Rattle.review_policy.specs.declared.act.ProfileAct.TheVariants.{Hold, Release}
use Rattle.office_words.specs.declared.name.ProfileName.{ProfileName}
use Rattle.office_policy.specs.History.{founded, enrolled, submitted, voted, issued, withdrawn}
use Rattle.office_policy.specs.History.{adopted, on_profile}
use Rattle.journal.specs.Lines.{Line, done, happened}

abbrev pub web : ProfileName
web = record { team = codes "blue"; profile = codes "web" }

abbrev pub digest : List ℕ
digest = replicate 31 171 ++ 1 ∷ []

abbrev pub digest_text : List ℕ
digest_text = codes "ababababababababababababababababababababababababababababababab01"

-- with CAP_NET_ADMIN and CAP_SYS_ADMIN listed
abbrev pub founding : Line
founding = happened (founded (codes "reg") (codes "core") digest (2 ^ 12 + 2 ^ 21))

-- as author, and with security
abbrev pub enrolment : Line
enrolment = happened (enrolled (codes "reg") (codes "ann") (codes "blue") (2 + 8) digest)

abbrev pub submission : Line
submission = happened (submitted (codes "ann") web (codes "{\"k\":1}" ++ 10 ∷ []))

abbrev pub vote : Line
vote = happened (voted (codes "rev") web 2 digest false)

abbrev pub issue : Line
issue = happened (issued (codes "iss") web 1)

abbrev pub withdrawal : Line
withdrawal = happened (withdrawn (codes "sec") web 9999)

abbrev pub adoption : Line
adoption = happened (adopted (codes "sec") web 10)

abbrev pub hold : Line
hold = happened (on_profile (codes "sec") Hold web)

abbrev pub release : Line
release = happened (on_profile (codes "sec") Release web)

abbrev pub settlement : Line
settlement = done 1234

abbrev pub founding_text : List ℕ
founding_text =
    codes "{\"digest\":\""
    ++ digest_text
    ++ codes "\",\"event\":\"found\",\"listed\":[\"CAP_NET_ADMIN\",\"CAP_SYS_ADMIN\"]"
    ++ codes ",\"team\":\"core\",\"user\":\"reg\"}"

abbrev pub enrolment_text : List ℕ
enrolment_text =
    codes "{\"by\":\"reg\",\"digest\":\""
    ++ digest_text
    ++ codes "\",\"event\":\"enrol\",\"roles\":[\"author\",\"security\"],\"team\":\"blue\""
    ++ codes ",\"user\":\"ann\"}"

abbrev pub submission_text : List ℕ
submission_text =
    codes "{\"by\":\"ann\",\"document\":\"{\\\"k\\\":1}\\n\",\"event\":\"submit\""
    ++ codes ",\"profile\":\"web\",\"team\":\"blue\"}"

abbrev pub vote_text : List ℕ
vote_text =
    codes "{\"by\":\"rev\",\"digest\":\""
    ++ digest_text
    ++ codes "\",\"event\":\"vote\",\"profile\":\"web\",\"revision\":2,\"team\":\"blue\""
    ++ codes ",\"vote\":\"reject\"}"

abbrev pub issue_text : List ℕ
issue_text =
    codes "{\"by\":\"iss\",\"event\":\"issue\",\"profile\":\"web\",\"revision\":1"
    ++ codes ",\"team\":\"blue\"}"

abbrev pub withdrawal_text : List ℕ
withdrawal_text =
    codes "{\"by\":\"sec\",\"event\":\"withdraw\",\"profile\":\"web\""
    ++ codes ",\"revision\":9999,\"team\":\"blue\"}"

abbrev pub adoption_text : List ℕ
adoption_text =
    codes "{\"by\":\"sec\",\"event\":\"adopt\",\"profile\":\"web\",\"revision\":10"
    ++ codes ",\"team\":\"blue\"}"

abbrev pub hold_text : List ℕ
hold_text =
    codes "{\"by\":\"sec\",\"event\":\"hold\",\"profile\":\"web\",\"team\":\"blue\"}"

abbrev pub release_text : List ℕ
release_text =
    codes "{\"by\":\"sec\",\"event\":\"release\",\"profile\":\"web\",\"team\":\"blue\"}"

abbrev pub strike_text : List ℕ
strike_text =
    codes "{\"event\":\"strike\"}"

abbrev pub done_text : List ℕ
done_text =
    codes "{\"event\":\"done\",\"of\":1234}"
