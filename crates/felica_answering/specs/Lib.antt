-- What a line is answered by: Source says what the bytes of a call are, Lists the answer of the list reader, Answers that of each call, and Room how long an answer is at most.
pub mod Source
pub mod Lists
pub mod Answers
pub mod Room
