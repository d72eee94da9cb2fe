pub mod SealFacts
pub mod ToldFacts
pub mod LineFacts
pub mod ReaderFacts
pub mod FaultFacts
pub mod DiskFacts
pub mod LogFacts
pub mod NameFacts
mod PieceFacts
mod InputFacts
