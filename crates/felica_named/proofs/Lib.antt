pub mod Placed
pub mod Digits
pub mod Noting
pub mod Chunks
