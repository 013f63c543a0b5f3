-- The line of one frame in a listing: Line says what it is, Rules what follows for the marks, Examples are codes with their marks.
pub mod Line
pub mod Rules
pub mod Examples
