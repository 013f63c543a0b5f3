pub mod Listed
pub mod SameCall
pub mod Length
pub mod OneAnswer
