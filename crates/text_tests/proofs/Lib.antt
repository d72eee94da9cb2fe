pub mod ToldFacts
