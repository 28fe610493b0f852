pub mod Claims
pub mod Networks
pub mod Worked
pub mod Shortcuts
