pub mod Bits
pub mod Steps
pub mod Well
pub mod Walks
