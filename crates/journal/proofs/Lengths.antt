-- A line of what the policy allows is no longer than a line can be.
use Rattle.std.proofs.Common.{inl, inr, ◌≡◌, ℕ, ◌+◌, ◌*◌, ◌≤◌, ◌<◌, ◌^◌, List, [], ◌∷◌, ◌++◌, length, map, None, Bool, true, false, ◌==◌, Ok, refl, ap, arith, leb-true, le_refl, lit≤, length-append}
use Rattle.std.specs.Prelude.{◌&&◌, codes, nat_le}
use Rattle.std.specs.List.{list_all}
use Rattle.std.proofs.lemmas.Bool.{and_parts, cases_Bool, cases_lt}
use Rattle.std.proofs.lemmas.Fmt.{length-decimal-le}
use Rattle.hex.proofs.HexLemmas.{length-encode_with}
use Rattle.hex.specs.Hex.{encode_lower, lower_digits}
use Rattle.json.proofs.Printed.Strings.{escape_byte_plain}
use Rattle.json.specs.Print.{escape, escape_byte, quoted}
use Rattle.serde_json.specs.Data.{unsigned, negative, float, Data, null, boolean, number, string, array, object, Items, no_items, item, Members, no_members, member}
use Rattle.serde_json.specs.View.{items_of}
use Rattle.serde_json.specs.Written.{comma_if, compact_text, items_text, members_text}
use Rattle.std.specs.Int.{bit_at}
use Rattle.cap_sets.specs.Capability.{cap_names, names_from, names_of}
use Rattle.profile_text.proofs.ReadsFacts.{reads_from}
use Rattle.profile_text.specs.Reading.{reading_of}
use Rattle.profile_text.specs.declared.profile.Profile.{Profile}
use Rattle.review_policy.specs.Acts.{profile_act_word, revision_act_word}
use Rattle.office_words.specs.Role.{has_role}
use Rattle.office_words.specs.WordTables.{all_roles, role_word}
use Rattle.office_words.specs.Words.{is_word, is_word_byte}
use Rattle.office_words.specs.declared.role.Role.{Role}
use Rattle.sealed_log.specs.Sealed.{longest, seal_on, sealed_line, sealed_with}
use Rattle.sealed_log.proofs.SealFacts.{length-sealed_line}
use Rattle.office_policy.proofs.LawFacts.{allowed_follows}
use Rattle.office_words.specs.declared.name.ProfileName.{ProfileName}
use Rattle.office_policy.specs.Formed.{IsName, IsNumber, IsWord}
use Rattle.office_policy.specs.History.{Event, History, did, founded, enrolled, submitted, voted, on_revision, on_profile}
use Rattle.office_policy.specs.Lawful.{IsAllowed, IsFounding}
use Rattle.office_policy.specs.EventForms.{HasForms}
use Rattle.journal.specs.Forms.{IsFormed}
use Rattle.journal.specs.Journal.{IsEntry}
use Rattle.review_sheet.specs.Review.{vote_word}
use Rattle.office_words.specs.WordTables.{role_words, words_among}
use Rattle.journal.specs.Lines.{Line, happened, strike, done, line_data, of_profile, of_revision, text_of}
use Rattle.journal.proofs.ActFacts.{profile_act_room, revision_act_room}
use Rattle.journal.proofs.NoFeeds.{HasSmall, ItemsHaveSmall, MembersHaveSmall, line_small, no_feed}
use Rattle.journal.proofs.Tables.{holds_below, each_below}

-- ---- strings

abbrev is_short_escape : ℕ → Bool
is_short_escape x = nat_le (length (escape_byte x)) 6

escapes_short : holds_below is_short_escape 128 ≡ true
unfolding escape_byte
escapes_short = refl

escape_short : (x : ℕ) → length (escape_byte x) ≤ 6
escape_short x = elim (cases_lt x 128) [
  | inl small ↦ leb-true (length (escape_byte x)) 6 (each_below is_short_escape 128 x escapes_short small)
  | inr big ↦ let one = ap length (escape_byte_plain x (λ e. omega arith) (λ e. omega arith) (omega arith)) in omega (arith, one)
]

escaped : (s : List ℕ) → length (escape s) ≤ 6 * length s
escaped [] = le_refl 0
escaped (x ∷ s) = omega (arith, escaped s, escape_short x, length-append (escape_byte x) (escape s))

quoted_room : (s : List ℕ) → length (quoted s) ≤ 6 * length s + 2
quoted_room s = omega (arith, escaped s, length-append (escape s) (34 ∷ []))

-- ---- values

-- as many bytes as a value's text has at most
abbrev mutual
  room : Data → ℕ
  room null = 4
  room (boolean b) = 5
  room (number (unsigned n)) = 20
  room (number (negative z)) = 0
  room (number (float x)) = 0
  room (string s) = 6 * length s + 2
  room (array ds) = items_room ds + 2
  room (object ms) = members_room ms + 2

  items_room : Items → ℕ
  items_room no_items = 0
  items_room (item d ds) = room d + 1 + items_room ds

  members_room : Members → ℕ
  members_room no_members = 0
  members_room (member k d ms) = 6 * length k + 4 + room d + members_room ms

comma_room : (later : Bool) → length (comma_if later) ≤ 1
comma_room true = lit≤ tt
comma_room false = lit≤ tt

mutual
  value_room : (d : Data) → HasSmall d → length (compact_text d) ≤ room d
  value_room null h = lit≤ tt
  value_room (boolean true) h = lit≤ tt
  value_room (boolean false) h = lit≤ tt
  value_room (number (unsigned n)) h = length-decimal-le 20 n (omega arith) (omega arith) h
  value_room (number (negative z)) h = absurd h
  value_room (number (float x)) h = absurd h
  value_room (string s) h = quoted_room s
  value_room (array ds) h = let rest = items_fit false ds h in omega (arith, rest)
  value_room (object ms) h = let rest = members_fit false ms h in omega (arith, rest)

  items_fit : (later : Bool) (ds : Items) → ItemsHaveSmall ds → length (items_text later ds) ≤ items_room ds + 1
  items_fit later no_items h = lit≤ tt
  items_fit later (item d ds) h =
      let here = value_room d h.0 in
      let rest = items_fit true ds h.1 in
      omega (arith, here, rest, comma_room later, length-append (comma_if later) (compact_text d ++ items_text true ds), length-append (compact_text d) (items_text true ds))

  members_fit : (later : Bool) (ms : Members) → MembersHaveSmall ms → length (members_text later ms) ≤ members_room ms + 1
  members_fit later no_members h = lit≤ tt
  members_fit later (member k d ms) h =
      let here = value_room d h.0 in
      let rest = members_fit true ms h.1 in
      omega (
        arith,
        here,
        rest,
        quoted_room k,
        comma_room later,
        length-append (comma_if later) (quoted k ++ 58 ∷ (compact_text d ++ members_text true ms)),
        length-append (quoted k) (58 ∷ (compact_text d ++ members_text true ms)),
        length-append (compact_text d) (members_text true ms),
      )

-- ---- lists of words

abbrev texts_room : List (List ℕ) → ℕ
texts_room [] = 0
texts_room (text ∷ texts) = 6 * length text + 3 + texts_room texts

room_of_texts : (texts : List (List ℕ)) → items_room (items_of (map string texts)) ≡ texts_room texts
room_of_texts [] = refl
room_of_texts (text ∷ texts) = let rest = room_of_texts texts in omega (arith, rest)

some_names : (n : ℕ) (names : List (List ℕ)) (caps : ℕ) → texts_room (names_from n names caps) ≤ texts_room names
unfolding names_from
some_names n [] caps = le_refl 0
some_names n (name ∷ names) caps = elim (cases_Bool (bit_at caps n == 1)) [
  | inl is ↦ rw is (let rest = some_names (n + 1) names caps in omega (arith, rest))
  | inr is_not ↦ rw is_not (let rest = some_names (n + 1) names caps in omega (arith, rest))
]

some_words : (roles : ℕ) (among : List Role) → texts_room (words_among roles among) ≤ texts_room (map role_word among)
some_words roles [] = le_refl 0
some_words roles (role ∷ among) = elim (cases_Bool (has_role roles role)) [
  | inl is ↦ rw is (let rest = some_words roles among in omega (arith, rest))
  | inr is_not ↦ rw is_not (let rest = some_words roles among in omega (arith, rest))
]

names_room : (caps : ℕ) → items_room (items_of (map string (names_of caps))) ≤ 20000
names_room caps =
    let all : texts_room cap_names ≤ 20000 = lit≤ tt in
    let some = some_names 0 cap_names caps in
    omega (arith, all, some, room_of_texts (names_of caps))

roles_room : (roles : ℕ) → items_room (items_of (map string (role_words roles))) ≤ 1000
roles_room roles =
    let all : texts_room (map role_word all_roles) ≤ 1000 = lit≤ tt in
    let some = some_words roles all_roles in
    omega (arith, all, some, room_of_texts (role_words roles))

-- ---- the parts of an event

word_room : (text : List ℕ) → IsWord text → length text ≤ 64
unfolding is_word
word_room text is =
    let sizes = (and_parts (nat_le 1 (length text) && nat_le (length text) 64) (list_all is_word_byte text) is).0 in
    leb-true (length text) 64 (and_parts (nat_le 1 (length text)) (nat_le (length text) 64) sizes).1

digest_room : (digest : List ℕ) → length (encode_lower digest) ≡ 2 * length digest
digest_room digest = length-encode_with lower_digits digest

number_room : (n : ℕ) → IsNumber n → n ≤ 9999
number_room n is = is.1

vote_room : (approves : Bool) → length (vote_word approves) ≤ 7
vote_room true = lit≤ tt
vote_room false = lit≤ tt

by_key : length (codes "by") ≡ 2
by_key = refl

digest_key : length (codes "digest") ≡ 6
digest_key = refl

document_key : length (codes "document") ≡ 8
document_key = refl

event_key : length (codes "event") ≡ 5
event_key = refl

listed_key : length (codes "listed") ≡ 6
listed_key = refl

profile_key : length (codes "profile") ≡ 7
profile_key = refl

revision_key : length (codes "revision") ≡ 8
revision_key = refl

roles_key : length (codes "roles") ≡ 5
roles_key = refl

team_key : length (codes "team") ≡ 4
team_key = refl

user_key : length (codes "user") ≡ 4
user_key = refl

vote_key : length (codes "vote") ≡ 4
vote_key = refl

found_word : length (codes "found") ≡ 5
found_word = refl

enrol_word : length (codes "enrol") ≡ 5
enrol_word = refl

submit_word : length (codes "submit") ≡ 6
submit_word = refl

of_profile_fits : (word caller : List ℕ) (p : ProfileName) → length word ≤ 8 → IsWord caller → IsName p → room (of_profile None word caller p) ≤ 3000
of_profile_fits word caller p short who name =
    omega (
      arith,
      word_room caller who,
      word_room p.team name.0,
      word_room p.profile name.1,
      short,
      by_key,
      event_key,
      profile_key,
      team_key,
    )

of_revision_fits : (word caller : List ℕ) (p : ProfileName) (n : ℕ) → length word ≤ 8 → IsWord caller → IsName p → IsNumber n → room (of_revision None word caller p n None) ≤ 20000
of_revision_fits word caller p n short who name numbered =
    omega (
      arith,
      word_room caller who,
      word_room p.team name.0,
      word_room p.profile name.1,
      number_room n numbered,
      short,
      by_key,
      event_key,
      profile_key,
      revision_key,
      team_key,
    )

-- the text of a submission is no longer than that of a document
abbrev HasShortText : Event → Type 0
HasShortText (submitted caller p text) = length text ≤ 262144
HasShortText _ = Unit {0}

-- a line of an event leaves room for more than one that says something of the event before
fits : (e : Event) → HasForms e → HasShortText e → room (line_data (happened e)) + 84 + 1024 ≤ longest
fits (founded name team digest listed) h short =
    omega (
      arith,
      word_room name h.0,
      word_room team h.1,
      digest_room digest,
      h.2.0,
      names_room listed,
      found_word,
      digest_key,
      event_key,
      listed_key,
      team_key,
      user_key,
    )
fits (enrolled caller name team roles digest) h short =
    omega (
      arith,
      word_room caller h.0,
      word_room name h.1,
      word_room team h.2,
      roles_room roles,
      digest_room digest,
      h.4.0,
      enrol_word,
      by_key,
      digest_key,
      event_key,
      roles_key,
      team_key,
      user_key,
    )
fits (submitted caller p text) h short =
    omega (
      arith,
      word_room caller h.0,
      word_room p.team h.1.0,
      word_room p.profile h.1.1,
      short,
      submit_word,
      by_key,
      document_key,
      event_key,
      profile_key,
      team_key,
    )
fits (voted caller p n digest approves) h short =
    omega (
      arith,
      word_room caller h.0,
      word_room p.team h.1.0,
      word_room p.profile h.1.1,
      number_room n h.2,
      digest_room digest,
      h.3.0,
      vote_room approves,
      by_key,
      digest_key,
      event_key,
      profile_key,
      revision_key,
      team_key,
      vote_key,
    )
fits (on_revision caller act p n) h short = let most = of_revision_fits (revision_act_word act) caller p n (revision_act_room act) h.0 h.1 h.2 in omega (arith, most)
fits (on_profile caller act p) h short = let most = of_profile_fits (profile_act_word act) caller p (profile_act_room act) h.0 h.1 in omega (arith, most)

-- ---- lines

entry : (l : Line) → IsFormed l → room (line_data l) + 84 ≤ longest → IsEntry l
unfolding text_of
entry l formed small = record {
  formed = formed;
  body = record {
    one = no_feed l formed;
    fits = let text = value_room (line_data l) (line_small l formed) in omega (arith, text, small);
  };
}

event_entry : (e : Event) → HasForms e → HasShortText e → IsEntry (happened e)
event_entry e forms short = let small = fits e forms short in entry (happened e) forms (omega (arith, small))

pub strike_entry : IsEntry strike
strike_entry = entry strike tt (lit≤ tt)

pub done_entry : (n : ℕ) → n < 2 ^ 64 → IsEntry (done n)
done_entry n h = entry (done n) h (lit≤ tt)

short_document : (text : List ℕ) (profile : Profile) → reading_of text ≡ Ok profile → length text ≤ 262144
short_document text profile reads = (reads_from text profile reads).short

allowed_text : (h : History) (e : Event) → IsAllowed h e → HasShortText e
allowed_text h (founded name team digest listed) is = tt
allowed_text h (enrolled caller name team roles digest) is = tt
allowed_text h (submitted caller p text) is =
    let follows = allowed_follows h (submitted caller p text) is in
    short_document text follows.profile follows.reads
allowed_text h (voted caller p n digest approves) is = tt
allowed_text h (on_revision caller act p n) is = tt
allowed_text h (on_profile caller act p) is = tt

pub allowed_entry : (h : History) (e : Event) → IsAllowed h e → HasForms e → IsEntry (happened e)
allowed_entry h e is forms = event_entry e forms (allowed_text h e is)

pub founding_entry : (e : Event) → IsFounding e → HasForms e → IsEntry (happened e)
founding_entry (founded name team digest listed) is forms =
    event_entry (founded name team digest listed) forms tt
founding_entry (did caller deed) is forms = absurd is

-- nor are the line of an event and the one that goes before it, together
done_room : (n : ℕ) → room (line_data (done n)) + 84 ≤ 1024
done_room n = lit≤ tt

line_room : (l : Line) → IsFormed l → length (text_of l) ≤ room (line_data l)
unfolding text_of
line_room l formed = value_room (line_data l) (line_small l formed)

pub both_fit : (h : History) (e : Event) (n : ℕ) (prior : List ℕ) → IsAllowed h e → HasForms e → n < 2 ^ 64
    → length (sealed_with prior (text_of (done n) ∷ []) (text_of (happened e))) ≤ longest
both_fit h e n prior allowed forms small =
    let first = text_of (done n) in
    let body = text_of (happened e) in
    omega (
      arith,
      fits e forms (allowed_text h e allowed),
      done_room n,
      line_room (done n) small,
      line_room (happened e) forms,
      length-sealed_line prior first,
      length-sealed_line (seal_on prior first) body,
      length-append (sealed_line prior first) [],
      length-append (sealed_line prior first ++ []) (sealed_line (seal_on prior first) body),
    )
