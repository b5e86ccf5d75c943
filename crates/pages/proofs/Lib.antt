pub mod Places
pub mod Needs
pub mod Counting
pub mod Halving
pub mod Owning
pub mod Moves
pub mod Keeping
pub mod Flagging
