pub mod Refusal
pub mod Lists
pub mod Executions
pub mod Comparing
pub mod FaultTexts
pub mod Places
