pub mod Refusals
pub mod Places
pub mod Lawful
pub mod Tested
pub mod Exchanged
pub mod Floored
pub mod Gridded
pub mod Capped
