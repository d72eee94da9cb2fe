pub mod Examples
pub mod JournalExamples
pub mod EdgeExamples
pub mod Limits
pub mod ServedExamples
