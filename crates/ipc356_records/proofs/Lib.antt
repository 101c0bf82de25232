pub mod KindNumbers
mod NumberLemmas
mod WordLemmas
mod NameLemmas
pub mod Outcome
pub mod Bridge
pub mod OneAnswer
pub mod Ending
mod ReadSoFar
pub mod Fits
pub mod Written
