mod Bounded
mod Contours
mod Counted
mod Covered
mod Figures
mod Drilled
mod Findings
mod Listed
mod Lying
mod Parts
mod Shares
mod Steps
mod Told
mod Outlined
mod Turning
pub mod HaveCopper
