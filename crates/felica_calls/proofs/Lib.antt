pub mod Reading
pub mod Decimal
pub mod Counts
pub mod Length
