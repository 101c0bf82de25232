mod Hits
mod Shifted
mod Margin
mod Turning
mod Slivers
mod Chords
pub mod Edges
pub mod Fans
mod Sectors
mod Segments
mod Curves
mod Inside
mod Read
mod Regions
