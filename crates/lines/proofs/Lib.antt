pub mod Reach
pub mod Figures
