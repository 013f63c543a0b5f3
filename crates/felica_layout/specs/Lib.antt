-- What the code's layouts mean.
pub mod Layout
