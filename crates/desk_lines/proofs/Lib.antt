mod FlawFacts
mod FormFacts
pub mod LeftFacts
mod NoteFacts
pub mod OutcomeFacts
pub mod ServeFacts
pub mod AskedFacts
