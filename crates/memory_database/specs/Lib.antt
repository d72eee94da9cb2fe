pub mod Copies
pub mod Errors
pub mod MemoryStore
pub mod VolatileFile
