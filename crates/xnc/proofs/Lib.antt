pub mod KindNumbers
pub mod Bridge
pub mod LawfulAfter
mod Fronts
pub mod Numbers
pub mod OneAnswer
pub mod Ending
pub mod Outcome
mod Places
pub mod Placing
pub mod ReadSoFar
pub mod ToolDown
