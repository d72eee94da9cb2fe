pub mod Lines
pub mod Pace
