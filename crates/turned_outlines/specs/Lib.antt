pub mod Laws
pub mod Nearest
pub mod Taken
