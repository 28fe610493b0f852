pub mod Refused
pub mod Row
