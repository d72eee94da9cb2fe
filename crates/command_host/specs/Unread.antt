-- Which file a command couldn't open or read, by the fault that it failed for.
use Rattle.std.specs.Prelude.{ℕ, List, Option, Some, None, if◌then◌else◌}
use Rattle.profile_commands.specs.declared.compare.ComparedFault.TheVariants as compared
use Rattle.profile_commands.specs.declared.fault.FileFault.{FileFault}
use Rattle.profile_commands.specs.declared.fault.FileFault.TheVariants as file
use Rattle.streams.specs.declared.unread.Unread.TheVariants as unread
use Rattle.command_host.specs.ReadFaults.{tells_of_read}
use Rattle.command_host.specs.declared.fault.CommandFault.{CommandFault}
use Rattle.command_host.specs.declared.fault.CommandFault.TheVariants as fault

-- the file at a path, where its bytes weren't read, and not for want of memory
abbrev pub unread_file : (path : List ℕ) → FileFault → Option (List ℕ)
unread_file path (file.Unread unread.Failed) = Some path
unread_file path (file.Unread unread.TooManyReads) = Some path
unread_file path _ = None

-- the one file that a command reads, at a path: a document or a journal
abbrev pub unread_at : (path : List ℕ) → CommandFault → Option (List ℕ)
unread_at path fault.Open = Some path
unread_at path (fault.Endless none) = Some path
unread_at path (fault.File why) = unread_file path why
unread_at path why = if tells_of_read why then Some path else None

-- the one of two documents, at the paths BASE and NEW, of which the fault is
abbrev pub unread_of : (base new : List ℕ) → CommandFault → Option (List ℕ)
unread_of base new (fault.Compared (compared.Base why)) = unread_file base why
unread_of base new (fault.Compared (compared.New why)) = unread_file new why
unread_of base new _ = None
