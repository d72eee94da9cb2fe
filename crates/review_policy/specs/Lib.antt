pub mod Acts
pub mod Rules
pub mod FirstRefusal
pub mod WordTables
