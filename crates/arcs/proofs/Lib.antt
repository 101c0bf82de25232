pub mod Along
mod Chain
mod Closed
mod Crossing
mod Each
mod Ends
mod Grown
pub mod Lower
mod Moved
mod OneDistance
mod Places
pub mod Radii
mod Read
mod Reaching
mod Ring
mod Roots
mod Taken
mod Turned
mod Turns
pub mod Upper
pub mod Vectors
mod Whole
