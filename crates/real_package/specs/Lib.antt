pub mod HandedReal
pub mod Laws
pub mod RealBoards
pub mod RealCauses
pub mod RealFiles
pub mod RealPackage
