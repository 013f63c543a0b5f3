-- What the fields of a writer's call say: Names numbers their names, Form says which values are well formed, Notes walks along the fields, Values reads
-- what they hold, and Handed is what the writer is handed.
pub mod Names
pub mod Fields
pub mod Form
pub mod Notes
pub mod Named
pub mod Values
pub mod Handed
