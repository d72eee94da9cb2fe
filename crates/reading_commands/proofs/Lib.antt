pub mod FailingFacts
mod FrontFacts
mod ReadingFacts
mod ResultFacts
