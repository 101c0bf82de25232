pub mod MadeFiles
pub mod MadePackages
