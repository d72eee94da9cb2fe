-- The words of why no office is founded, why none is opened, and why one isn't migrated.
use Rattle.std.specs.Prelude.{ℕ, List, codes}
use Rattle.office_words.specs.WordTables.{fault_word}
use Rattle.office_founding.specs.declared.fault.FoundingFault.{FoundingFault}
use Rattle.office_founding.specs.declared.fault.FoundingFault.TheVariants as founding
use Rattle.office_founding.specs.declared.fault.MigrationFault.{MigrationFault}
use Rattle.office_founding.specs.declared.fault.MigrationFault.TheVariants as migration
use Rattle.office_founding.specs.declared.fault.OpeningFault.{OpeningFault}
use Rattle.office_founding.specs.declared.fault.OpeningFault.TheVariants as opening

abbrev pub founding_fault_word : FoundingFault → List ℕ
founding_fault_word founding.AlreadyFounded = codes "already-founded"
founding_fault_word (founding.Store fault) = fault_word fault

abbrev pub opening_fault_word : OpeningFault → List ℕ
opening_fault_word opening.OldSchema = codes "old-schema"
opening_fault_word opening.NoIndex = codes "no-index"
opening_fault_word (opening.Store fault) = fault_word fault

abbrev pub migration_fault_word : MigrationFault → List ℕ
migration_fault_word migration.AlreadyMigrated = codes "already-migrated"
migration_fault_word (migration.Store fault) = fault_word fault
