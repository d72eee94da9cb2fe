-- What the heads of the two files of a database say.
use Rattle.std.specs.Prelude.{ℕ, zero, suc, ◌+◌, ◌-◌, ◌*◌, ◌/◌, min, max, Bool, ◌==◌, ◌&&◌, ◌||◌}
use Rattle.std.specs.Prelude.{nat_le, if◌then◌else◌, List, [], ◌∷◌, ◌++◌, length, take, bytes_eq, codes}
use Rattle.database_files.specs.Numbers.{long_at, short_at}

-- how many bytes of a file say how far it goes
abbrev pub head_bytes : ℕ
head_bytes = 100

-- no more of a file is read than this, 4 GiB
abbrev pub most_bytes : ℕ
most_bytes = 4_294_967_296

-- how a database of SQLite begins
abbrev pub header_text : List ℕ
header_text = codes "SQLite format 3" ++ 0 ∷ []

-- bytes that begin a file are those of a database
abbrev pub begins_database : List ℕ → Bool
begins_database head =
    nat_le head_bytes (length head) && bytes_eq (take 16 head) header_text

-- bytes that begin a file are those of a log
abbrev pub begins_log : List ℕ → Bool
begins_log head = nat_le 56 (length head)
    && (long_at head 0 == 0x377f_0682 || long_at head 0 == 0x377f_0683)

-- how many pages the header of a database says that it has
abbrev pub stated_pages : List ℕ → ℕ
stated_pages head = if nat_le 32 (length head) then long_at head 28 else 0

-- how many bytes it says that a page has
abbrev pub stated_size : List ℕ → ℕ
stated_size head = if short_at head 16 == 1 then 65536 else short_at head 16

-- the most pages that one of the first frames of a log says that the database has
unfoldable pub most_pages : (size : ℕ) (log : List ℕ) (frames : ℕ) → ℕ
most_pages size log zero = 0
most_pages size log (suc i) = max (most_pages size log i) (long_at log (32 + i * size + 4))

-- how many frames a log has, each of so many bytes
abbrev pub frame_count : (size : ℕ) (log : List ℕ) → ℕ
frame_count size log = (length log - 32) / size

-- the most pages that any says
abbrev pub logged_pages : List ℕ → ℕ
logged_pages log =
    let size = 24 + long_at log 8 in most_pages size log (frame_count size log)

-- One page more than the header or the log says that there are: a file that has that is too long, which
-- is seen so. Of bytes that begin no database, where there is no log, no more than those.
abbrev pub wanted_bytes : (log head : List ℕ) → ℕ
wanted_bytes log head =
    if begins_log log then (max (stated_pages head) (logged_pages log) + 1) * long_at log 8
    else if begins_database head then (stated_pages head + 1) * stated_size head else head_bytes

-- no fewer bytes than were looked at, and no more than one more than the most
abbrev pub within_most : ℕ → ℕ
within_most wanted = max head_bytes (min wanted (most_bytes + 1))

-- how far the file of a database is read
abbrev pub database_extent : (log head : List ℕ) → ℕ
database_extent log head = within_most (wanted_bytes log head)

-- how far its log is read
abbrev pub log_extent : (head : List ℕ) → ℕ
log_extent head = if begins_log head then most_bytes + 1 else head_bytes

-- the number that a database has for its application
abbrev pub user_version : (head : List ℕ) → ℕ
user_version head = if begins_database head then long_at head 60 else 0
