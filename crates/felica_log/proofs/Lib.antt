pub mod Examples
pub mod Front
pub mod Rules
pub mod StepResult
pub mod Turn
