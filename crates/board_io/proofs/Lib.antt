pub mod Agreeing
mod Edge
mod Notes
