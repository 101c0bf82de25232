pub mod Fine
pub mod Holes
pub mod Laws
pub mod Taken
