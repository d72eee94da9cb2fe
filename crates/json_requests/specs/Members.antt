-- The members of a request's line, each of its form.
use Rattle.std.specs.Prelude.{ℕ, ◌^◌, ◌&&◌, List, Bool, true, false, Option, Some, None}
use Rattle.std.specs.Prelude.{if◌then◌else◌, option_and_then, option_map, codes, nat_le}
use Rattle.std.specs.Str.{bytes_eq}
use Rattle.std.specs.Int.RustNames.{bit_or}
use Rattle.serde_json.specs.Data.{Data, Items, no_items, item}
use Rattle.serde_json.specs.Find.{get, as_str, as_number, as_u64, as_array}
use Rattle.office_words.specs.Digests.{digest_from_hex}
use Rattle.office_words.specs.Words.{is_word, is_token}
use Rattle.office_words.specs.Role.{place_of}
use Rattle.office_words.specs.Limits.{max_revisions}
use Rattle.office_words.specs.WordTables.{role_of}
use Rattle.office_words.specs.declared.name.ProfileName.{ProfileName}

infixl 10 ◌>>=◌
abbrev pub ◌>>=◌ : {A B : Type 0} → Option A → (A → Option B) → Option B
None >>= f = None
(Some x) >>= f = f x

-- the text under a name
abbrev pub text_at : List ℕ → Data → Option (List ℕ)
text_at name d = option_and_then as_str (get name d)

-- a word: 1 to 64 of a-z, 0-9 and the hyphen
abbrev pub if_word : List ℕ → Option (List ℕ)
if_word text = if is_word text then Some text else None

unfoldable pub word_at : List ℕ → Data → Option (List ℕ)
word_at name d = option_and_then if_word (text_at name d)

-- a token: 1 to 128 bytes from 0x21 to 0x7E
abbrev pub if_token : List ℕ → Option (List ℕ)
if_token text = if is_token text then Some text else None

unfoldable pub token_at : Data → Option (List ℕ)
token_at d = option_and_then if_token (text_at (codes "token") d)

-- the profile that `team` and `profile` name
unfoldable pub name_at : Data → Option ProfileName
name_at d = do
  team ← word_at (codes "team") d
  profile ← word_at (codes "profile") d
  Some (record { team = team; profile = profile })

-- the whole number under a name
abbrev pub whole_at : List ℕ → Data → Option ℕ
whole_at name d = option_and_then as_u64 (option_and_then as_number (get name d))

-- the number of a revision: 1 to 9,999
abbrev pub if_revision : ℕ → Option ℕ
if_revision n = if nat_le 1 n && nat_le n max_revisions then Some n else None

unfoldable pub revision_at : Data → Option ℕ
revision_at d = option_and_then if_revision (whole_at (codes "revision") d)

-- the number of a revision that may be left out, and is none where it is
abbrev pub before_in : Option Data → Option (Option ℕ)
before_in None = Some None
before_in (Some d) =
    option_map (λ n. Some n) (option_and_then if_revision (option_and_then as_u64 (as_number d)))

unfoldable pub before_at : Data → Option (Option ℕ)
before_at d = before_in (get (codes "before") d)

-- a digest of 64 lower-case hexadecimal digits
unfoldable pub digest_at : Data → Option (List ℕ)
digest_at d = option_and_then digest_from_hex (text_at (codes "digest") d)

-- a vote: whether it approves
abbrev pub approves : List ℕ → Option Bool
approves text =
    if bytes_eq text (codes "approve") then Some true
    else if bytes_eq text (codes "reject") then Some false else None

unfoldable pub vote_at : Data → Option Bool
vote_at d = option_and_then approves (text_at (codes "vote") d)

-- the set of the roles whose words are listed
abbrev pub roles_of : Items → Option ℕ
roles_of no_items = Some 0
roles_of (item d ds) = do
  role ← option_and_then role_of (as_str d)
  roles ← roles_of ds
  Some (bit_or (2 ^ place_of role) roles)

unfoldable pub roles_at : Data → Option ℕ
roles_at d = option_and_then roles_of (option_and_then as_array (get (codes "roles") d))
