pub mod Entries
pub mod Length
