pub mod Numbers
pub mod Steps
pub mod Strokes
pub mod Closings
pub mod Turns
pub mod Readings
pub mod PointsRead
