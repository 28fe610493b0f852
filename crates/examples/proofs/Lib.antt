pub mod Passing
pub mod Evidence
pub mod Shortcuts
