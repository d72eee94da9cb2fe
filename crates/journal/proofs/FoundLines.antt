-- What was written of a line is found in it.
use Rattle.std.proofs.Common.{◌≡◌, ◌∙◌, ℕ, zero, suc, ◌/◌, ◌%◌, ◌^◌, ◌<◌, List, [], ◌∷◌, All, Some, None, Bool, true, false, refl, arith, map, slice_index}
use Rattle.std.specs.Prelude.{◌&&◌, nat_le}
use Rattle.std.specs.List.{list_all}
use Rattle.std.proofs.lemmas.Bool.Decides.{nat_tests}
use Rattle.std.proofs.lemmas.List.Elements.{All-head, All-tail}
use Rattle.std.proofs.lemmas.Str.Ascii.{IsAscii-nil}
use Rattle.hex.proofs.HexLemmas.{decode_sized-encode_lower}
use Rattle.hex.specs.Hex.{IsBytes, encode_lower, encode_with, lower_digits}
use Rattle.serde_json.specs.Data.{string}
use Rattle.serde_json.specs.View.{items_of}
use Rattle.cap_sets.specs.Capability.{names_of}
use Rattle.profile_text.proofs.ListedNames.{names_listed}
use Rattle.profile_text.proofs.NameFacts.{listed_set}
use Rattle.profile_text.specs.Sets.{caps_of}
use Rattle.review_policy.specs.Acts.{profile_act_word, revision_act_word}
use Rattle.office_words.specs.Digests.{digest_from_hex, is_lower_digit}
use Rattle.review_policy.specs.declared.act.ProfileAct.{ProfileAct}
use Rattle.review_policy.specs.declared.act.RevisionAct.{RevisionAct}
use Rattle.office_words.specs.declared.name.ProfileName.{ProfileName}
use Rattle.json_requests.specs.Members.{approves as vote_of, digest_at, if_revision, name_at, revision_at, roles_at, vote_at, word_at}
use Rattle.office_policy.specs.Formed.{IsWord, IsDigest, IsName, IsNumber}
use Rattle.office_policy.specs.History.{founded, enrolled, submitted, voted, on_revision, on_profile}
use Rattle.journal.specs.Forms.{IsFormed}
use Rattle.review_sheet.specs.Review.{vote_word}
use Rattle.journal.specs.Lines.{Line, happened, strike, done, line_data, of_profile, of_revision}
use Rattle.journal.specs.Read.{acted_on_profile_at, acted_on_revision_at, done_at, caller_at, candidate_at, enrolled_at, founded_at, listed_at, submitted_at, voted_at}
use Rattle.journal.proofs.ActFacts.{profile_act_back, revision_act_back}
use Rattle.journal.proofs.RoleFacts.{roles_back}
use Rattle.journal.proofs.Tables.{each_below}

-- ---- digests

bytes_from : (xs : List ℕ) → All (λ byte. byte < 2 ^ 8) xs → IsBytes xs
bytes_from [] all i = let small = IsAscii-nil i in omega arith
bytes_from (x ∷ xs) all zero = All-head (λ byte. byte < 2 ^ 8) x xs all
bytes_from (x ∷ xs) all (suc i) = bytes_from xs (All-tail (λ byte. byte < 2 ^ 8) x xs all) i

abbrev is_lower_place : ℕ → Bool
is_lower_place n = is_lower_digit (slice_index lower_digits n)

lower_place : (n : ℕ) → n < 16 → is_lower_digit (slice_index lower_digits n) ≡ true
lower_place n lt = each_below is_lower_place 16 n refl lt

lower_digits_alone : (xs : List ℕ) → IsBytes xs → list_all is_lower_digit (encode_lower xs) ≡ true
unfolding encode_with
lower_digits_alone [] small = refl
lower_digits_alone (x ∷ xs) small =
    let fits : x < 256 = small 0 in
    let high : x / 16 < 16 = omega arith in
    let low : x % 16 < 16 = omega arith in
    rw (lower_place (x / 16) high, lower_place (x % 16) low) (lower_digits_alone xs (λ i. small (suc i)))

digest_back : (digest : List ℕ) → IsDigest digest → digest_from_hex (encode_lower digest) ≡ Some digest
unfolding digest_from_hex
digest_back digest h =
    let small = bytes_from digest h.1 in
    rw (lower_digits_alone digest small, decode_sized-encode_lower digest 32 h.0 small) refl

-- ---- numbers, votes and capabilities

number_back : (n : ℕ) → IsNumber n → if_revision n ≡ Some n
number_back n h =
    let low = h.0 in
    let high = h.1 in
    let both : (nat_le 1 n && nat_le n 9999) ≡ true = grind (arith, nat_tests) in
    rw both refl

vote_back : (approves : Bool) → vote_of (vote_word approves) ≡ Some approves
vote_back true = refl
vote_back false = refl

listed_back : (listed : ℕ) → listed < 2 ^ 41 → caps_of (items_of (map string (names_of listed))) ≡ listed
listed_back listed known = listed_set (items_of (map string (names_of listed))) listed (names_listed listed known)

-- ---- lines

of_act_on_profile : (act : ProfileAct) (word caller : List ℕ) (p : ProfileName) → IsWord caller → IsName p
    → acted_on_profile_at act (of_profile None word caller p) ≡ Some (happened (on_profile caller act p))
unfolding acted_on_profile_at caller_at word_at name_at
of_act_on_profile act word caller p is_caller is_name = rw (is_caller, is_name.0, is_name.1) refl

of_act_on_revision : (act : RevisionAct) (word caller : List ℕ) (p : ProfileName) (n : ℕ) → IsWord caller → IsName p → IsNumber n
    → acted_on_revision_at act (of_revision None word caller p n None) ≡ Some (happened (on_revision caller act p n))
unfolding acted_on_revision_at caller_at word_at name_at revision_at
of_act_on_revision act word caller p n is_caller is_name is_number = rw (is_caller, is_name.0, is_name.1, number_back n is_number) refl

founding : (name team digest : List ℕ) (listed : ℕ) → IsFormed (happened (founded name team digest listed))
    → founded_at (line_data (happened (founded name team digest listed))) ≡ Some (happened (founded name team digest listed))
unfolding founded_at word_at digest_at listed_at
founding name team digest listed h = rw (h.0, h.1, digest_back digest h.2, listed_back listed h.3) refl

enrolment : (caller name team : List ℕ) (roles : ℕ) (digest : List ℕ) → IsFormed (happened (enrolled caller name team roles digest))
    → enrolled_at (line_data (happened (enrolled caller name team roles digest))) ≡ Some (happened (enrolled caller name team roles digest))
unfolding enrolled_at caller_at word_at roles_at digest_at
enrolment caller name team roles digest h = rw (h.0, h.1, h.2, roles_back roles h.3, digest_back digest h.4) refl

submission : (caller : List ℕ) (p : ProfileName) (text : List ℕ) → IsFormed (happened (submitted caller p text))
    → submitted_at (line_data (happened (submitted caller p text))) ≡ Some (happened (submitted caller p text))
unfolding submitted_at caller_at word_at name_at
submission caller p text h = rw (h.0, h.1.0, h.1.1) refl

vote : (caller : List ℕ) (p : ProfileName) (n : ℕ) (digest : List ℕ) (approves : Bool) → IsFormed (happened (voted caller p n digest approves))
    → voted_at (line_data (happened (voted caller p n digest approves))) ≡ Some (happened (voted caller p n digest approves))
unfolding voted_at caller_at word_at name_at revision_at digest_at vote_at
vote caller p n digest approves h =
    rw (h.0, h.1.0, h.1.1, number_back n h.2, digest_back digest h.3, vote_back approves) refl

settled : (n : ℕ) → done_at (line_data (done n)) ≡ Some (done n)
unfolding done_at
settled n = refl

pub found : (l : Line) → IsFormed l → candidate_at (line_data l) ≡ Some l
unfolding candidate_at
found (happened (founded name team digest listed)) h = founding name team digest listed h
found (happened (enrolled caller name team roles digest)) h = enrolment caller name team roles digest h
found (happened (submitted caller p text)) h = submission caller p text h
found (happened (voted caller p n digest approves)) h = vote caller p n digest approves h
found (happened (on_revision caller act p n)) h =
    revision_act_back act (line_data (happened (on_revision caller act p n))) ∙ of_act_on_revision act (revision_act_word act) caller p n h.0 h.1 h.2
found (happened (on_profile caller act p)) h =
    profile_act_back act (line_data (happened (on_profile caller act p))) ∙ of_act_on_profile act (profile_act_word act) caller p h.0 h.1
found strike h = refl
found (done n) h = settled n
