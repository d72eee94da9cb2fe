pub mod Parts
pub mod Commands
pub mod Meaning
pub mod Refusals
pub mod Words
