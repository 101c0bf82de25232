pub mod FormFile
pub mod FormLines
pub mod History
pub mod Meaning
pub mod Reader
pub mod Laws
pub mod Numbers
