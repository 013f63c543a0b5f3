pub mod Boundary
pub mod Fields
