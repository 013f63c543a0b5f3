pub mod Text
pub mod Before
pub mod Length
