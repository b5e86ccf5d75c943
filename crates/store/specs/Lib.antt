pub mod Shown
pub mod Memory
