pub mod Contours
