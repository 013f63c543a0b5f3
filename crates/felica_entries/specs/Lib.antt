-- What one entry of a part is.
pub mod Entries
