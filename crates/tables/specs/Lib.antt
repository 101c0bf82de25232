pub mod Chains
pub mod Consistent
pub mod Lists
pub mod Tables
