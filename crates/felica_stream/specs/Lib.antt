-- Input that is held from one read to the next, and output that waits.
pub mod Held
