pub mod Steps
pub mod Numerals
pub mod Accepts
pub mod Plain
