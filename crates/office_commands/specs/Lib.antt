pub mod Subjects
pub mod Commands
pub mod Failing
pub mod Notes
pub mod SameFiles
pub mod Apart
pub mod Hosts
