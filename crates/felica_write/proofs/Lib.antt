pub mod Elements
pub mod Ready
pub mod Outcome
pub mod Rules
