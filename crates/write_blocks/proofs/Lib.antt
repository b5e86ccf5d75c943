pub mod Items
pub mod Doing
