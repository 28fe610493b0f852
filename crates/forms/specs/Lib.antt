pub mod Scan
pub mod Form
pub mod Written
