pub mod Decision
pub mod Parts
