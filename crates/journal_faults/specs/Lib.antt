pub mod DifferenceTexts
pub mod FaultTexts
pub mod Faults
