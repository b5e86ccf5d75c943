pub mod Deciding
pub mod Groups
pub mod Rings
pub mod Recent
pub mod Sets
pub mod Archives
