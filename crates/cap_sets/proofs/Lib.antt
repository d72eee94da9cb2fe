pub mod Bits
pub mod Faults
pub mod Known
pub mod Listing
pub mod Lowest
pub mod Naming
pub mod Searches
