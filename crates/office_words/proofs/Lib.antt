pub mod Members
pub mod Tallies
pub mod WordFacts
