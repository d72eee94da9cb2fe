-- The text of a line, read as JSON, is the value that was written.
use Rattle.std.proofs.Common.{◌≡◌, ℕ, ◌+◌, ◌<◌, List, [], ◌∷◌, All, map, Some, None, Bool, true, false, cond, refl, arith, lit≤, lt-ltb}
use Rattle.std.specs.Prelude.{codes, IsUtf8, filter, ◌==◌}
use Rattle.std.specs.Int.{bit_at}
use Rattle.std.specs.List.{list_all}
use Rattle.std.specs.Str.{IsAscii}
use Rattle.std.proofs.lemmas.Bool.{and_parts, ltb-true}
use Rattle.std.proofs.lemmas.Bool.Decides.{nat_tests}
use Rattle.std.proofs.lemmas.List.Elements.{All-nil, All-cons}
use Rattle.std.proofs.lemmas.Str.{IsUtf8-from_ascii}
use Rattle.std.proofs.lemmas.Str.Ascii.{IsAscii-nil, IsAscii-cons}
use Rattle.hex.proofs.HexLemmas.{IsAscii-encode_with}
use Rattle.hex.specs.Hex.{encode_lower, lower_digits}
use Rattle.json.proofs.Printed.Utf8.{are_ascii, IsUtf8-are_ascii}
use Rattle.serde_json.specs.Data.{Data, string, number, unsigned, object, Members, no_members, member}
use Rattle.serde_json.specs.Read.{of_json}
use Rattle.serde_json.specs.Written.{outline}
use Rattle.cap_sets.specs.Capability.{cap_names, names_from, names_of}
use Rattle.profile_text.proofs.Printing.{MembersPrint, Prints, deeper, end_prints, list_prints, member_prints, number_prints, object_prints, text_prints}
use Rattle.profile_text.specs.Text.{set_data, texts_data}
use Rattle.review_policy.specs.Acts.{profile_act_word, revision_act_word}
use Rattle.office_words.specs.Role.{has_role}
use Rattle.office_words.specs.Words.{is_word, is_word_byte}
use Rattle.office_words.specs.WordTables.{all_roles, role_word}
use Rattle.office_words.specs.declared.name.ProfileName.{ProfileName}
use Rattle.office_words.specs.declared.role.Role.{Role}
use Rattle.office_words.specs.declared.role.Role.TheVariants.{Registrar, Author, Reviewer, Security, Issuer, Machine}
use Rattle.office_policy.specs.Formed.{IsWord, IsName, IsNumber}
use Rattle.office_policy.specs.History.{founded, enrolled, submitted, voted, on_revision, on_profile}
use Rattle.journal.specs.Forms.{IsFormed}
use Rattle.review_sheet.specs.Review.{vote_word}
use Rattle.office_words.specs.WordTables.{role_words, words_among}
use Rattle.journal.specs.Lines.{Line, happened, strike, done, line_data, of_profile, of_revision}
use Rattle.journal.proofs.ActFacts.{profile_act_ascii, revision_act_ascii}

-- ---- parts

word_byte_small : (b : ℕ) → is_word_byte b ≡ true → b < 128
word_byte_small b h = grind (arith, nat_tests)

word_bytes_ascii : (bytes : List ℕ) → list_all is_word_byte bytes ≡ true → are_ascii bytes ≡ true
word_bytes_ascii [] h = refl
word_bytes_ascii (b ∷ bytes) h =
    let parts = and_parts (is_word_byte b) (list_all is_word_byte bytes) h in
    rw (lt-ltb b 128 (word_byte_small b parts.0)) (word_bytes_ascii bytes parts.1)

word_utf8 : (text : List ℕ) → IsWord text → IsUtf8 text
unfolding is_word
word_utf8 text h = IsUtf8-are_ascii text (word_bytes_ascii text (and_parts _ (list_all is_word_byte text) h).1)

ascii_from : (xs : List ℕ) → are_ascii xs ≡ true → IsAscii xs
ascii_from [] h = IsAscii-nil
ascii_from (x ∷ xs) h = let parts = and_parts _ (are_ascii xs) h in IsAscii-cons x xs (ltb-true x 128 parts.0) (ascii_from xs parts.1)

digest_utf8 : (digest : List ℕ) → IsUtf8 (encode_lower digest)
digest_utf8 digest = IsUtf8-from_ascii (encode_lower digest) (IsAscii-encode_with lower_digits digest (ascii_from lower_digits refl))

vote_utf8 : (approves : Bool) → IsUtf8 (vote_word approves)
vote_utf8 true = IsUtf8-are_ascii (vote_word true) refl
vote_utf8 false = IsUtf8-are_ascii (vote_word false) refl

abbrev TextPrints : List ℕ → Type 0
TextPrints s = Prints 0 (string s)

-- ---- lists

role_prints : (r : Role) → TextPrints (role_word r)
role_prints r = text_prints (role_word r) (IsUtf8-are_ascii (role_word r) (ascii r))
  where
    ascii : (r : Role) → are_ascii (role_word r) ≡ true
    ascii Registrar = refl
    ascii Author = refl
    ascii Reviewer = refl
    ascii Security = refl
    ascii Issuer = refl
    ascii Machine = refl

words_print : (roles : ℕ) (among : List Role) → All TextPrints (words_among roles among)
words_print roles [] = All-nil TextPrints
words_print roles (r ∷ among) =
    elim (has_role roles r) as (λ b. All TextPrints (map role_word (cond b (r ∷ filter (has_role roles) among) (filter (has_role roles) among)))) [
      | true ↦ All-cons TextPrints (role_word r) (words_among roles among) (role_prints r) (words_print roles among)
      | false ↦ words_print roles among
    ]

roles_print : (roles : ℕ) → Prints 1 (texts_data (role_words roles))
roles_print roles = list_prints string 0 (role_words roles) (words_print roles all_roles)

abbrev all_ascii : List (List ℕ) → Bool
all_ascii names = list_all are_ascii names

names_print : (n : ℕ) (names : List (List ℕ)) (caps : ℕ) → all_ascii names ≡ true → All TextPrints (names_from n names caps)
unfolding names_from
names_print n [] caps h = All-nil TextPrints
names_print n (name ∷ names) caps h =
    let parts = and_parts (are_ascii name) (all_ascii names) h in
    let rest = names_print (n + 1) names caps parts.1 in
    elim (bit_at caps n == 1) as (λ b. All TextPrints (cond b (name ∷ names_from (n + 1) names caps) (names_from (n + 1) names caps))) [
      | true ↦ All-cons TextPrints name (names_from (n + 1) names caps) (text_prints name (IsUtf8-are_ascii name parts.0)) rest
      | false ↦ rest
    ]

set_prints : (caps : ℕ) → Prints 1 (set_data caps)
set_prints caps = list_prints string 0 (names_of caps) (names_print 0 cap_names caps refl)

-- ---- members

list_part : (name : List ℕ) (d : Data) (rest : Members) → are_ascii name ≡ true → Prints 1 d → MembersPrint 1 rest → MembersPrint 1 (member name d rest)
list_part name d rest plain first others = member_prints 1 name (Some d) rest plain first others

text_part : (name text : List ℕ) (rest : Members) → are_ascii name ≡ true → IsUtf8 text → MembersPrint 1 rest → MembersPrint 1 (member name (string text) rest)
text_part name text rest plain utf8 others = list_part name (string text) rest plain (deeper 0 1 (Some (string text)) (lit≤ tt) (text_prints text utf8)) others

revision_prints : (n : ℕ) → IsNumber n → Prints 0 (number (unsigned n))
revision_prints n h = let low = h.0 in let high = h.1 in number_prints n (omega arith)

number_part : (name : List ℕ) (n : ℕ) (rest : Members) → are_ascii name ≡ true → IsNumber n → MembersPrint 1 rest → MembersPrint 1 (member name (number (unsigned n)) rest)
number_part name n rest plain h others = list_part name (number (unsigned n)) rest plain (deeper 0 1 (Some (number (unsigned n))) (lit≤ tt) (revision_prints n h)) others

-- the word of what happened
word_part : (word : List ℕ) (rest : Members) → are_ascii word ≡ true → MembersPrint 1 rest → MembersPrint 1 (member (codes "event") (string word) rest)
word_part word rest ascii others = text_part (codes "event") word rest refl (IsUtf8-are_ascii word ascii) others

-- ---- lines

profile_prints : (word caller : List ℕ) (p : ProfileName) → are_ascii word ≡ true → IsWord caller → IsName p → Prints 2 (of_profile None word caller p)
profile_prints word caller p ascii is_caller is_name =
    object_prints 1 _
    (text_part (codes "by") caller _ refl (word_utf8 caller is_caller)
    (word_part word _ ascii
    (text_part (codes "profile") p.profile _ refl (word_utf8 p.profile is_name.1)
    (text_part (codes "team") p.team no_members refl (word_utf8 p.team is_name.0) (end_prints 1)))))
    refl

revision_back : (word caller profile team : List ℕ) (n : Data) → of_json (outline n) ≡ Some n
    → of_json (outline (object (member (codes "by") (string caller) (member (codes "event") (string word) (member (codes "profile") (string profile) (member (codes "revision") n (member (codes "team") (string team) no_members)))))))
    ≡ Some (object (member (codes "by") (string caller) (member (codes "event") (string word) (member (codes "profile") (string profile) (member (codes "revision") n (member (codes "team") (string team) no_members))))))
revision_back word caller profile team n is = rw is refl

of_revision_prints : (word caller : List ℕ) (p : ProfileName) (n : ℕ) → are_ascii word ≡ true → IsWord caller → IsName p → IsNumber n → Prints 2 (of_revision None word caller p n None)
of_revision_prints word caller p n ascii is_caller is_name is_number =
    object_prints 1 _
    (text_part (codes "by") caller _ refl (word_utf8 caller is_caller)
    (word_part word _ ascii
    (text_part (codes "profile") p.profile _ refl (word_utf8 p.profile is_name.1)
    (number_part (codes "revision") n _ refl is_number
    (text_part (codes "team") p.team no_members refl (word_utf8 p.team is_name.0) (end_prints 1))))))
    (revision_back _ _ _ _ _ (revision_prints n is_number).back)

founded_back : (digest name team : List ℕ) (listed : Data) → of_json (outline listed) ≡ Some listed
    → of_json (outline (object (member (codes "digest") (string digest) (member (codes "event") (string (codes "found")) (member (codes "listed") listed (member (codes "team") (string team) (member (codes "user") (string name) no_members)))))))
    ≡ Some (object (member (codes "digest") (string digest) (member (codes "event") (string (codes "found")) (member (codes "listed") listed (member (codes "team") (string team) (member (codes "user") (string name) no_members))))))
founded_back digest name team listed is = rw is refl

enrolled_back : (caller digest name team : List ℕ) (roles : Data) → of_json (outline roles) ≡ Some roles
    → of_json (outline (object (member (codes "by") (string caller) (member (codes "digest") (string digest) (member (codes "event") (string (codes "enrol")) (member (codes "roles") roles (member (codes "team") (string team) (member (codes "user") (string name) no_members))))))))
    ≡ Some (object (member (codes "by") (string caller) (member (codes "digest") (string digest) (member (codes "event") (string (codes "enrol")) (member (codes "roles") roles (member (codes "team") (string team) (member (codes "user") (string name) no_members)))))))
enrolled_back caller digest name team roles is = rw is refl

voted_back : (caller digest profile team vote : List ℕ) (n : Data) → of_json (outline n) ≡ Some n
    → of_json (outline (object (member (codes "by") (string caller) (member (codes "digest") (string digest) (member (codes "event") (string (codes "vote")) (member (codes "profile") (string profile) (member (codes "revision") n (member (codes "team") (string team) (member (codes "vote") (string vote) no_members)))))))))
    ≡ Some (object (member (codes "by") (string caller) (member (codes "digest") (string digest) (member (codes "event") (string (codes "vote")) (member (codes "profile") (string profile) (member (codes "revision") n (member (codes "team") (string team) (member (codes "vote") (string vote) no_members))))))))
voted_back caller digest profile team vote n is = rw is refl

done_back : (n : Data) → of_json (outline n) ≡ Some n
    → of_json (outline (object (member (codes "event") (string (codes "done")) (member (codes "of") n no_members))))
    ≡ Some (object (member (codes "event") (string (codes "done")) (member (codes "of") n no_members)))
done_back n is = rw is refl

pub line_prints : (l : Line) → IsFormed l → Prints 2 (line_data l)
line_prints (happened (founded name team digest listed)) h =
    object_prints 1 _
    (text_part (codes "digest") (encode_lower digest) _ refl (digest_utf8 digest)
    (word_part (codes "found") _ refl
    (list_part (codes "listed") (set_data listed) _ refl (set_prints listed)
    (text_part (codes "team") team _ refl (word_utf8 team h.1)
    (text_part (codes "user") name no_members refl (word_utf8 name h.0) (end_prints 1))))))
    (founded_back _ _ _ _ (set_prints listed).back)
line_prints (happened (enrolled caller name team roles digest)) h =
    object_prints 1 _
    (text_part (codes "by") caller _ refl (word_utf8 caller h.0)
    (text_part (codes "digest") (encode_lower digest) _ refl (digest_utf8 digest)
    (word_part (codes "enrol") _ refl
    (list_part (codes "roles") (texts_data (role_words roles)) _ refl (roles_print roles)
    (text_part (codes "team") team _ refl (word_utf8 team h.2)
    (text_part (codes "user") name no_members refl (word_utf8 name h.1) (end_prints 1)))))))
    (enrolled_back _ _ _ _ _ (roles_print roles).back)
line_prints (happened (submitted caller p text)) h =
    object_prints 1 _
    (text_part (codes "by") caller _ refl (word_utf8 caller h.0)
    (text_part (codes "document") text _ refl h.2
    (word_part (codes "submit") _ refl
    (text_part (codes "profile") p.profile _ refl (word_utf8 p.profile h.1.1)
    (text_part (codes "team") p.team no_members refl (word_utf8 p.team h.1.0) (end_prints 1))))))
    refl
line_prints (happened (voted caller p n digest approves)) h =
    object_prints 1 _
    (text_part (codes "by") caller _ refl (word_utf8 caller h.0)
    (text_part (codes "digest") (encode_lower digest) _ refl (digest_utf8 digest)
    (word_part (codes "vote") _ refl
    (text_part (codes "profile") p.profile _ refl (word_utf8 p.profile h.1.1)
    (number_part (codes "revision") n _ refl h.2
    (text_part (codes "team") p.team _ refl (word_utf8 p.team h.1.0)
    (text_part (codes "vote") (vote_word approves) no_members refl (vote_utf8 approves) (end_prints 1))))))))
    (voted_back _ _ _ _ _ _ (revision_prints n h.2).back)
line_prints (happened (on_revision caller act p n)) h = of_revision_prints (revision_act_word act) caller p n (revision_act_ascii act) h.0 h.1 h.2
line_prints (happened (on_profile caller act p)) h = profile_prints (profile_act_word act) caller p (profile_act_ascii act) h.0 h.1
line_prints strike h = object_prints 1 _ (word_part (codes "strike") no_members refl (end_prints 1)) refl
line_prints (done n) h =
    object_prints 1 _
    (word_part (codes "done") _ refl
    (list_part (codes "of") (number (unsigned n)) no_members refl (deeper 0 1 (Some (number (unsigned n))) (lit≤ tt) (number_prints n h)) (end_prints 1)))
    (done_back _ (number_prints n h).back)
