mod Masks
mod Ranges
mod Exact
pub mod Implied
