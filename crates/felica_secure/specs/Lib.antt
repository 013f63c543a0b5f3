-- The secure codes that share a layout.
pub mod Codes
