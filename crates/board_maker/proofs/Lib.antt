pub mod Cells
pub mod Holding
mod Shortness
