pub mod Told
pub mod Enough
