pub mod Extents
pub mod Marks
pub mod Numbers
