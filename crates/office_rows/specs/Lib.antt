pub mod Faults
pub mod Entries
pub mod Statements
pub mod Rows
pub mod Queries
pub mod Told
pub mod Causes
pub mod Refusals
