pub mod Cones
pub mod Copper
pub mod Discs
pub mod Laws
pub mod Polygons
pub mod Rounds
pub mod Taken
pub mod Turned
