pub mod OneAnswer
pub mod ReadSoFar
pub mod Same
pub mod Ending
