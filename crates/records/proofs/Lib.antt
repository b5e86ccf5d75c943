pub mod Words
pub mod Gathering
pub mod Recording
pub mod Refusing
