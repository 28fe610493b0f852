pub mod Made
pub mod Ways
