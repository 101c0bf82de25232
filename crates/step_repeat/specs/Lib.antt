pub mod Copies
pub mod Repeats
pub mod Figures
pub mod Shifting
