pub mod OneAnswer
pub mod Bridge
pub mod ReadSoFar
pub mod Placing
pub mod Same
pub mod Obeyed
pub mod Ending
pub mod Pointed
