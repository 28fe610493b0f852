pub mod Line
pub mod Word
pub mod Number
