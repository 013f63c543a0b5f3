pub mod Layouts
pub mod Entry
