pub mod CopyFacts
pub mod EmptyFacts
pub mod MemoryFacts
