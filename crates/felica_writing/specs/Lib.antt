-- The line that answers a call of the writer.
pub mod Answer
