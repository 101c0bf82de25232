mod Between
mod Bounded
mod Helds
mod Inside
mod Layering
mod Lefts
mod Lists
