pub mod Lines
pub mod Held
pub mod Reading
