mod BareSheet
mod DetailedSheet
mod Adding
mod AfterFacts
mod CapFacts
mod LineFacts
