-- Why the file of a journal can't be had.
use Rattle.command_host.specs.declared.fault.CommandFault.{CommandFault}
use Rattle.command_host.specs.declared.fault.CommandFault.TheVariants as fault
use Rattle.command_host.specs.declared.no_file.NoFile.{NoFile}
use Rattle.command_host.specs.declared.no_file.NoFile.TheVariants as files

abbrev pub file_fault : NoFile → CommandFault
file_fault files.There = fault.JournalThere
file_fault files.Busy = fault.Busy
file_fault (files.NoMemory refused) = fault.NoMemory refused
file_fault files.Failed = fault.Journal
