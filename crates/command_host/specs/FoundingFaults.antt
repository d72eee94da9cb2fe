-- Why the words of `init` describe no founding.
use Rattle.std.specs.Prelude.{◌≡◌}
use Rattle.office_words.specs.declared.word.WordFault.{WordFault}
use Rattle.office_words.specs.declared.word.WordFault.TheVariants as words
use Rattle.command_host.specs.declared.founding_fault.FoundingWordsFault.{FoundingWordsFault}
use Rattle.command_host.specs.declared.founding_fault.FoundingWordsFault.TheVariants as refusal

-- what is reported where NAME or TEAM gave no word
abbrev pub IsFaultOfWord : WordFault → FoundingWordsFault → Type 0
IsFaultOfWord words.NotAWord told = told ≡ refusal.BadWord
IsFaultOfWord (words.NoMemory refused) told = told ≡ refusal.NoMemory refused
