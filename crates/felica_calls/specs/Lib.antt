-- What a line calls for, and the line that says what is wrong with it.
pub mod Fault
pub mod Read
pub mod Field
pub mod Number
pub mod Sizes
pub mod Bytes
pub mod Source
pub mod Write
pub mod Call
