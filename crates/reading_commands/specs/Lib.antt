pub mod Places
pub mod Reading
pub mod Copied
pub mod Moments
pub mod Documents
pub mod DocumentFailures
pub mod Verifications
pub mod Reports
