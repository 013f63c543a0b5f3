-- What the writer is handed, as a command.
pub mod Handed
