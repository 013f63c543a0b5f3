-- What the writer answers and writes: Writing is the definition of its contract, and Rules what follows from it; Size, Body and Head serve the proof.
pub mod Writing
pub mod Rules
pub mod Size
pub mod Body
pub mod Head
