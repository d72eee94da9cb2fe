pub mod PlainFacts
pub mod SaidFacts
pub mod OpenedFacts
