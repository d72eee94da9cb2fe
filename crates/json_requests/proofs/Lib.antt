pub mod AnswerFacts
pub mod KindFacts
mod ObjectFacts
pub mod VoteFacts
pub mod RequestFacts
pub mod RoleFacts
