mod Lent
pub mod Answers
