pub mod Handling
pub mod Carrying
pub mod Replaying
pub mod Openings
pub mod Looking
