pub mod Listed
pub mod Length
