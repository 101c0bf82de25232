mod Both
mod Cuts
mod Rays
mod Quads
pub mod Frames
mod Outlines
mod Places
