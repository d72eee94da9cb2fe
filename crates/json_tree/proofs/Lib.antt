mod Escapes
mod Growing
mod Lanes
pub mod Views
mod Looking
mod Put
mod Reading
mod Writers
pub mod Writing
