pub mod Counts
pub mod Marked
pub mod Marking
