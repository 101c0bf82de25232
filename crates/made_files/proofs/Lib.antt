pub mod Tenths
pub mod MadeHoles
pub mod MadePoints
pub mod MadeCopper
pub mod Frame
pub mod Fitting
