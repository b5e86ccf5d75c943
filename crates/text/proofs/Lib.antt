pub mod Reading
pub mod Writing
pub mod Keeping
pub mod Fields
pub mod Putting
