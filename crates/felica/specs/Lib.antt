-- What an input is answered by: Lines says what its lines are and what answers them; Room says how large the program's buffers are, and Held ties the answers to what it has read and
-- written.
pub mod Lines
pub mod Room
pub mod Held
