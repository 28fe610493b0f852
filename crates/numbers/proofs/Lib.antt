pub mod Products
pub mod Factors
pub mod Totals
pub mod Rows
