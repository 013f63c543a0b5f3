-- The FeliCa Standard command format, in the order of reading: what a command is, the layout of each code, reading, writing, and the statements of
-- demand 3. Writable and Examples are not to be relied on: demand 3 says what the one tells, and the other is proved of the layouts.
-- Long says how the long elements of W-204 are counted, Grounds which refusals there are, Reasons their numbers, Slots which values the formula of W-208 takes.
pub mod Basic
pub mod Command
pub mod Layout
pub mod Read
pub mod Write
pub mod Writable
pub mod Demand3
pub mod Long
pub mod Reasons
pub mod Grounds
pub mod Slots
pub mod Examples
