-- What a result of the parser says: Types gives the number of each typed value, Meaning the command or refusal of a result, Places where its parts stand,
-- Lists those of its parts that are lists, Holds what stands at the places. Handed is the command that the writer is handed.
pub mod Types
pub mod Meaning
pub mod Places
pub mod Lists
pub mod Holds
pub mod Handed
