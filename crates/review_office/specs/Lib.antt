pub mod Offices
pub mod Told
pub mod Carries
pub mod Replayed
pub mod Meant
pub mod Opened
pub mod Looking
