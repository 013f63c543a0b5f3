-- What a buffer holds that numbers are put into, and what a call puts into it.
pub mod Put
pub mod Output
