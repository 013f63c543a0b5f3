-- What the answers of the steps say, and what a walk along them gives.
pub mod Taken
pub mod Steps
pub mod Endings
pub mod Body
