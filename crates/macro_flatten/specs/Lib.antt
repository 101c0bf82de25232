pub mod FlatText
pub mod Flattened
pub mod Laws
pub mod Pens
