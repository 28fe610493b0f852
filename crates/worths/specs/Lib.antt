pub mod Kinds
pub mod Laws
pub mod Values
pub mod Fit
pub mod Rows
pub mod Facts
pub mod Heights
