pub mod Ranges
pub mod Fitting
pub mod Parts
pub mod Heights
pub mod Falling
pub mod Pairs
