pub mod Storage
pub mod Admit
pub mod Steps
pub mod Clauses
