pub mod DrillFile
pub mod Kind
pub mod Laws
pub mod Places
pub mod Reader
pub mod DrillLines
pub mod Settings
pub mod DrillEffects
