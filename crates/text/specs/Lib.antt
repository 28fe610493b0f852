pub mod Consignment
pub mod Refused
pub mod Reader
pub mod Drafts
