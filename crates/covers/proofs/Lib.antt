pub mod Covering
pub mod Plain
pub mod Verdicts
pub mod HalfDiscs
