pub mod Returns
pub mod Hits
pub mod Uses
pub mod Frames
pub mod Figure
