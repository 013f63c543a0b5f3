pub mod Bounds
pub mod Examples
pub mod Marks
pub mod Result
pub mod Rules
