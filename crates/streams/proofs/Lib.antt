pub mod WholeFacts
pub mod BufferFacts
pub mod HandedFacts
pub mod HeldFacts
pub mod LineFacts
