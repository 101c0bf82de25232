pub mod Agreeing
pub mod Boards
pub mod Covering
pub mod Laws
pub mod Plain
pub mod Worked
