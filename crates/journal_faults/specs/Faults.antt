-- Which fault of an opening a fault of the log, or of a line, is.
use Rattle.sealed_log.specs.declared.fault.LogFault.{LogFault}
use Rattle.sealed_log.specs.declared.fault.LogFault.TheVariants as logs
use Rattle.sealed_log.specs.declared.unreadable.Unreadable.{Unreadable}
use Rattle.sealed_log.specs.declared.unreadable.Unreadable.TheVariants as unreadable
use Rattle.journal_faults.specs.declared.not_reopened.NotReopened.{NotReopened}
use Rattle.journal_faults.specs.declared.not_reopened.NotReopened.TheVariants.{NotALine, Log, NoMemory}

-- why a line can't stand where it does, or can't be read
abbrev pub line_fault : Unreadable → NotReopened
line_fault unreadable.NotALine = NotALine
line_fault unreadable.NoEventBefore = NotALine
line_fault unreadable.Unsealed = NotALine
line_fault unreadable.TornLine = NotALine
line_fault unreadable.Read = Log
line_fault (unreadable.NoMemory refused) = NoMemory refused

-- why the file of a journal can't be used
abbrev pub log_fault : LogFault → NotReopened
log_fault (logs.NoMemory refused) = NoMemory refused
log_fault logs.Disk = Log
log_fault logs.Full = Log
