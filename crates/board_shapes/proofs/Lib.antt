pub mod Arms
pub mod BoardTables
pub mod Boxes
pub mod Deciding
pub mod Halves
pub mod Kept
pub mod Shifts
