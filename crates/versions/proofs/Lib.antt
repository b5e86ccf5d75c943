pub mod Archived
pub mod Cleared
pub mod Finding
pub mod Flagged
pub mod Folding
pub mod Naming
pub mod Putting
pub mod Walking
