pub mod InForce
pub mod OneAnswer
pub mod ReadSoFar
