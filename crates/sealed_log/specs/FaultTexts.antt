-- The words of why the lines of a log can't be read on.
use Rattle.std.specs.Prelude.{ℕ, List, codes}
use Rattle.sealed_log.specs.declared.unreadable.Unreadable.{Unreadable}
use Rattle.sealed_log.specs.declared.unreadable.Unreadable.TheVariants as unreadable

abbrev pub unreadable_word : Unreadable → List ℕ
unreadable_word unreadable.NotALine = codes "not-a-line"
unreadable_word unreadable.NoEventBefore = codes "no-event-before"
unreadable_word unreadable.Unsealed = codes "unsealed"
unreadable_word unreadable.TornLine = codes "torn-line"
unreadable_word unreadable.Read = codes "read"
unreadable_word (unreadable.NoMemory _) = codes "memory"
