pub mod Typed
pub mod Inside
pub mod Holds
pub mod OneAccount
pub mod Spots
pub mod Settled
pub mod Few
