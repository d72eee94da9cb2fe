pub mod View
pub mod Gathered
pub mod Tokens
pub mod Writer
pub mod Plain
pub mod Grows
