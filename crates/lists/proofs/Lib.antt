pub mod Lists
pub mod Lines
pub mod Values
