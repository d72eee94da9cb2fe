pub mod Transactions
pub mod Form
pub mod Founding
pub mod Migration
pub mod Reopening
pub mod Faults
pub mod Examples
