pub mod Building
pub mod Getters
pub mod Numbers
pub mod RefusalFacts
