pub mod Laws
pub mod MadeBoard
pub mod MadePackage
