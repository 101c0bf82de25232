pub mod Ending
pub mod OneAnswer
pub mod OwnNumbers
pub mod Turning
