-- Logs: Listing says what the listing of a log is, Step how far a step over a piece of a log comes, Rules what follows from both, Examples are logs with their listings, Ahead is a step on the way.
pub mod Listing
pub mod Step
pub mod Rules
pub mod Examples
pub mod Ahead
