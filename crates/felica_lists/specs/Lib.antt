-- The list reader: Lists says what it answers and writes, Rules what follows from that, Fill what its steps do, Lent the buffers in the code.
pub mod Lists
pub mod Rules
pub mod Fill
pub mod Lent
