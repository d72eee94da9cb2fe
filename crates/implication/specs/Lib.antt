pub mod Implication
pub mod Sets
