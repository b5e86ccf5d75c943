pub mod Lines
pub mod Table
pub mod Ring
pub mod Flags
