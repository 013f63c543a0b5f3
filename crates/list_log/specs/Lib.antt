-- What the program has listed of the bytes that it holds.
pub mod Held
