pub mod Newest
pub mod Steps
