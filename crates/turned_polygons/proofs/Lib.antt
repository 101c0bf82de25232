mod Squares
mod Bounds
mod Spots
