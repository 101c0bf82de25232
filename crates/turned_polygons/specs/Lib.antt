pub mod Copper
pub mod Laws
pub mod Taken
