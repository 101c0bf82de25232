pub mod Laws
pub mod NetFile
pub mod NetLines
