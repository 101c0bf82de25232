pub mod Conditions
pub mod Faults
pub mod Kinds
pub mod LookingBack
pub mod Reading
