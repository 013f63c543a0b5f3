-- The plain codes that share a layout.
pub mod Codes
