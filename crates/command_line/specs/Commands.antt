-- The commands of the program, as clap reads them.
use Rattle.std.specs.Prelude.{[], ◌∷◌, List, Option, String, codes, map, string_bytes}
use Rattle.std.specs.declared.alloc.Global.{Global}
use Rattle.clap.specs.Words.{App, Kinds, Row, Shape, Text, fault_of, new_app, subcommand_of}
use Rattle.command_line.specs.Parts.{flag_rule, needed_number_rule, needed_rule, number_rule}
use Rattle.command_line.specs.Parts.{option_rule, several_rule, with_commands, with_rules}
use Rattle.command_line.specs.Parts.{with_version}
use Rattle.command_line.specs.declared.evidence.TheConstants.{LAST_REVISION}

-- `check FILE`
abbrev pub check_app : App
check_app = with_rules (new_app (codes "check")) (needed_rule (codes "file") ∷ [])

-- `execve FILE [--root] [--file-effective] [--file-permitted LIST] [--file-inheritable LIST]`
abbrev pub execve_app : App
execve_app = with_rules (new_app (codes "execve")) (needed_rule (codes "file")
    ∷ flag_rule (codes "root") ∷ flag_rule (codes "file-effective")
    ∷ option_rule (codes "file-permitted") ∷ option_rule (codes "file-inheritable") ∷ [])

-- `compare BASE NEW`
abbrev pub compare_app : App
compare_app = with_rules (new_app (codes "compare")) (needed_rule (codes "base")
    ∷ needed_rule (codes "new") ∷ [])

-- `init DB NAME TEAM DIGEST [CAP]... [--journal FILE]`
abbrev pub init_app : App
init_app = with_rules (new_app (codes "init")) (needed_rule (codes "database")
    ∷ needed_rule (codes "name") ∷ needed_rule (codes "team") ∷ needed_rule (codes "digest")
    ∷ several_rule (codes "capability") ∷ option_rule (codes "journal") ∷ [])

-- `desk DB [--journal FILE | --without-journal]`: that not both are there, `IsJournalGiven` demands.
abbrev pub desk_app : App
desk_app = with_rules (new_app (codes "desk")) (needed_rule (codes "database")
    ∷ option_rule (codes "journal") ∷ flag_rule (codes "without-journal") ∷ [])

-- `serve DB [--port P] (--requests N | --until-stopped) [--journal FILE | --without-journal]`: P is 0
-- where it isn't given. That one of the two is there, and not both, `AreRequests` demands.
abbrev pub serve_app : App
serve_app = with_rules (new_app (codes "serve")) (needed_rule (codes "database")
    ∷ record (number_rule (codes "port") 0 65535) { defaults = codes "0" ∷ [] }
    ∷ number_rule (codes "requests") 1 1000000 ∷ flag_rule (codes "until-stopped")
    ∷ option_rule (codes "journal") ∷ flag_rule (codes "without-journal") ∷ [])

-- `migrate DB [--without-journal]`
abbrev pub migrate_app : App
migrate_app = with_rules (new_app (codes "migrate")) (needed_rule (codes "database")
    ∷ flag_rule (codes "without-journal") ∷ [])

-- `verify DB JOURNAL [--seal N:HEX] [--mark]`
abbrev pub verify_app : App
verify_app = with_rules (new_app (codes "verify")) (needed_rule (codes "database")
    ∷ needed_rule (codes "journal") ∷ option_rule (codes "seal") ∷ flag_rule (codes "mark") ∷ [])

-- `rebuild DB JOURNAL`
abbrev pub rebuild_app : App
rebuild_app = with_rules (new_app (codes "rebuild")) (needed_rule (codes "database")
    ∷ needed_rule (codes "journal") ∷ [])

-- `history JOURNAL [--team T] [--profile P] [--user U] [--since N] [--json]`: N is 1 where it isn't
-- given
abbrev pub history_app : App
history_app = with_rules (new_app (codes "history")) (needed_rule (codes "journal")
    ∷ option_rule (codes "team") ∷ option_rule (codes "profile") ∷ option_rule (codes "user")
    ∷ record (number_rule (codes "since") 1 18446744073709551615) { defaults = codes "1" ∷ [] }
    ∷ flag_rule (codes "json") ∷ [])

-- `evidence JOURNAL TEAM PROFILE N [--line L]`
abbrev pub evidence_app : App
evidence_app = with_rules (new_app (codes "evidence")) (needed_rule (codes "journal")
    ∷ needed_rule (codes "team") ∷ needed_rule (codes "profile")
    ∷ needed_number_rule (codes "revision") 1 LAST_REVISION
    ∷ number_rule (codes "line") 1 18446744073709551615 ∷ [])

-- the commands, in the order of the help
abbrev pub commands : List Shape
commands = check_app.top ∷ execve_app.top ∷ compare_app.top ∷ init_app.top
    ∷ desk_app.top ∷ serve_app.top ∷ migrate_app.top ∷ verify_app.top ∷ rebuild_app.top
    ∷ history_app.top ∷ evidence_app.top ∷ []

-- `office`, with its version and its commands
unfoldable pub office_app : App
office_app = with_commands (with_version (new_app (codes "office"))) commands

-- the subcommand that clap finds in the words of a command line, with the rows of its values
abbrev pub found_in : List (String Global) → Option (Text × List Row)
found_in words = subcommand_of office_app (map string_bytes words)

-- what clap answers in place of a command
abbrev pub faults_in : List (String Global) → Kinds
faults_in words = fault_of office_app (map string_bytes words)
