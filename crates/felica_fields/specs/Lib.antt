-- The fields of an answer: a list of the payload as text, and a field by its name. The text of a refusal.
pub mod Entries
pub mod Field
pub mod Refused
