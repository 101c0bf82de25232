pub mod Faults
pub mod Layer
pub mod Laws
pub mod Readings
pub mod Taken
