pub mod Going
pub mod Reading
pub mod Saying
