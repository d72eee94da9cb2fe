pub mod ReadFacts
pub mod ListFacts
pub mod OutcomeFacts
pub mod PlaceFacts
