mod Capsules
mod Fine
mod Pierced
mod Read
mod Rectangles
