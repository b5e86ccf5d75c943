pub mod Search
pub mod Digits
